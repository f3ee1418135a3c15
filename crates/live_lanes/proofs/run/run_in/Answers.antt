use Rattle.std.proofs.Common.{◌≡◌, length, rules, sym, ap, subst, ◌∙◌, arith}
use Rattle.std.proofs.lemmas.List.{length-map}
use Rattle.live_seats.specs.AnySeats.{AreSeatsOf, cpus_as_any, without_rings}
use Rattle.live_seats.specs.declared.seat.AnySeat.TheVariants.{Cpu}
use Rattle.live_seats.proofs.Apart.{seats_sit}
use Rattle.live_lanes.proofs.LaneRuns.{back_count, both_kinds, control_back, cpus_back, launched, merge_back}
use Rattle.live_lanes.proofs.run.run_in.Goals as goal

pub scoped-ended-requires : goal.scoped-ended-requires
scoped-ended-requires g c =
    let e = c.requires.rooms in
    let cpus = c.args.cpus.items in
    let seats = c.add_cpus-seats.result.items in
    let is : seats ≡ cpus_as_any cpus = launched cpus c.args.rooms.seats.items seats e.seats.0 c.add_cpus-seats.ensures in
    let t = without_rings c.args.live.now in
    let sit : AreSeatsOf t seats = subst (AreSeatsOf t) (sym is) (seats_sit c.args.live.now cpus c.requires.cpus) in
    let n : length seats ≡ length cpus = ap length is ∙ length-map cpus (λ s. Cpu s) in
    let f = c.as_slice-flags.ensures.len in
    let p = e.seating in
    record {
      at = λ a. (
        (
          search rules,
          c.requires.ready,
          sit,
          omega (arith, n, f, e.flags),
          record { places = (p.places.0, omega (arith, n, p.places.1)); here = (p.here.0, omega (arith, n, p.here.1)) },
          e.ended.0,
          omega (arith, n, e.ended.1),
        ),
        (search rules, search rules),
      );
    }

pub take_apart-requires-clause-seats : goal.take_apart-requires-clause-seats
take_apart-requires-clause-seats g c =
    let e = c.requires.rooms in
    let cpus = c.args.cpus.items in
    let seats = c.add_cpus-seats.result.items in
    let is : seats ≡ cpus_as_any cpus = launched cpus c.args.rooms.seats.items seats e.seats.0 c.add_cpus-seats.ensures in
    both_kinds c.args.live.now c.args.lanes.now c.args.counts.now cpus seats c.scoped-ended.result.items is c.scoped-ended.ensures.1

pub take_apart-requires-clause-room : goal.take_apart-requires-clause-room
take_apart-requires-clause-room g c =
    let e = c.requires.rooms in
    let cpus = c.args.cpus.items in
    let seats = c.add_cpus-seats.result.items in
    let is : seats ≡ cpus_as_any cpus = launched cpus c.args.rooms.seats.items seats e.seats.0 c.add_cpus-seats.ensures in
    let n = back_count c.args.live.now c.args.lanes.now c.args.counts.now cpus seats c.scoped-ended.result.items is c.scoped-ended.ensures.1 in
    (e.cpus'.0, omega (arith, n, e.cpus'.1))

pub returns : goal.returns
returns g c =
    let e = c.requires.rooms in
    let cpus = c.args.cpus.items in
    let seats = c.add_cpus-seats.result.items in
    let is : seats ≡ cpus_as_any cpus = launched cpus c.args.rooms.seats.items seats e.seats.0 c.add_cpus-seats.ensures in
    let back = c.scoped-ended.result.items in
    let t = c.take_apart in
    record {
      control = control_back c.args.live.now c.args.lanes.now c.args.counts.now cpus seats back is c.scoped-ended.ensures.1 t.result.control
          t.result.cpus.items t.ensures;
      cpus = cpus_back c.args.live.now c.args.lanes.now c.args.counts.now cpus seats back is c.scoped-ended.ensures.1 t.result.control
          t.result.cpus.items t.ensures;
      order = merge_back c.args.live.now c.args.lanes.now c.args.counts.now cpus seats back is c.scoped-ended.ensures.1 t.result.control
          t.result.cpus.items t.ensures;
    }
