use Rattle.std.proofs.Common.{◌≡◌, ◌+◌, length, sym, subst, arith}
use Rattle.live_seats.specs.AnySeats.{all_of, cpus_as_any}
use Rattle.live_seats.specs.Rooms.{HasPlaces}
use Rattle.live_seats.proofs.Apart.{all_count, all_over, all_sit, all_together, ended_apart, kinds_again, over_count}
use Rattle.live_threads.proofs.run.run_in.Goals as goal

pub run_scoped-ended-requires-clause-seats : goal.run_scoped-ended-requires-clause-seats
run_scoped-ended-requires-clause-seats g c κs within =
    let e = c.requires.rooms in
    let seats = c.add_cpus-seats.result.items in
    let is : seats ≡ all_of c.args.control c.args.cpus.items =
    all_together c.args.control (cpus_as_any c.args.cpus.items) c.args.rooms.seats.items c.push_reserved.new.self.items seats e.seats.0
    c.push_reserved.ensures.items c.add_cpus-seats.ensures in
    all_sit c.args.live.now c.args.control c.args.cpus.items seats c.requires.control c.requires.cpus is

pub run_scoped-ended-requires-clause-flags : goal.run_scoped-ended-requires-clause-flags
run_scoped-ended-requires-clause-flags g c κs within =
    let e = c.requires.rooms in
    let seats = c.add_cpus-seats.result.items in
    let is : seats ≡ all_of c.args.control c.args.cpus.items =
    all_together c.args.control (cpus_as_any c.args.cpus.items) c.args.rooms.seats.items c.push_reserved.new.self.items seats e.seats.0
    c.push_reserved.ensures.items c.add_cpus-seats.ensures in
    let n : length seats ≡ length c.args.cpus.items + 1 = all_count c.args.control c.args.cpus.items seats is in
    let f = c.as_slice.ensures.len in
    omega (arith, n, f, e.flags)

pub run_scoped-ended-requires-clause-seating : goal.run_scoped-ended-requires-clause-seating
run_scoped-ended-requires-clause-seating g c κs within =
    let e = c.requires.rooms in
    let seats = c.add_cpus-seats.result.items in
    let is : seats ≡ all_of c.args.control c.args.cpus.items =
    all_together c.args.control (cpus_as_any c.args.cpus.items) c.args.rooms.seats.items c.push_reserved.new.self.items seats e.seats.0
    c.push_reserved.ensures.items c.add_cpus-seats.ensures in
    let n : length seats ≡ length c.args.cpus.items + 1 = all_count c.args.control c.args.cpus.items seats is in
    subst (HasPlaces c.args.rooms.seating) (sym n) e.seating

pub run_scoped-ended-requires-clause-ended : goal.run_scoped-ended-requires-clause-ended
run_scoped-ended-requires-clause-ended g c κs within =
    let e = c.requires.rooms in
    let seats = c.add_cpus-seats.result.items in
    let is : seats ≡ all_of c.args.control c.args.cpus.items =
    all_together c.args.control (cpus_as_any c.args.cpus.items) c.args.rooms.seats.items c.push_reserved.new.self.items seats e.seats.0
    c.push_reserved.ensures.items c.add_cpus-seats.ensures in
    let n : length seats ≡ length c.args.cpus.items + 1 = all_count c.args.control c.args.cpus.items seats is in
    (e.ended.0, omega (arith, n, e.ended.1))

pub take_apart-requires-clause-seats : goal.take_apart-requires-clause-seats
take_apart-requires-clause-seats g c =
    let e = c.requires.rooms in
    let seats = c.add_cpus-seats.result.items in
    let is : seats ≡ all_of c.args.control c.args.cpus.items =
    all_together c.args.control (cpus_as_any c.args.cpus.items) c.args.rooms.seats.items c.push_reserved.new.self.items seats e.seats.0
    c.push_reserved.ensures.items c.add_cpus-seats.ensures in
    kinds_again c.args.control c.args.cpus.items c.run_scoped-ended.result.items
    (all_over c.args.control c.args.cpus.items seats c.run_scoped-ended.result.items is c.run_scoped-ended.ensures)

pub take_apart-requires-clause-room : goal.take_apart-requires-clause-room
take_apart-requires-clause-room g c =
    let e = c.requires.rooms in
    let seats = c.add_cpus-seats.result.items in
    let is : seats ≡ all_of c.args.control c.args.cpus.items =
    all_together c.args.control (cpus_as_any c.args.cpus.items) c.args.rooms.seats.items c.push_reserved.new.self.items seats e.seats.0
    c.push_reserved.ensures.items c.add_cpus-seats.ensures in
    let n = over_count c.args.control c.args.cpus.items c.run_scoped-ended.result.items
    (all_over c.args.control c.args.cpus.items seats c.run_scoped-ended.result.items is c.run_scoped-ended.ensures) in
    (e.cpus'.0, omega (arith, n, e.cpus'.1))

pub returns : goal.returns
returns g c =
    let e = c.requires.rooms in
    let seats = c.add_cpus-seats.result.items in
    let is : seats ≡ all_of c.args.control c.args.cpus.items =
    all_together c.args.control (cpus_as_any c.args.cpus.items) c.args.rooms.seats.items c.push_reserved.new.self.items seats e.seats.0
    c.push_reserved.ensures.items c.add_cpus-seats.ensures in
    let over = all_over c.args.control c.args.cpus.items seats c.run_scoped-ended.result.items is c.run_scoped-ended.ensures in
    let apart = ended_apart c.args.control c.take_apart.result.control c.args.cpus.items c.take_apart.result.cpus.items
    c.run_scoped-ended.result.items over c.take_apart.ensures in
    record { control = apart.0; cpus = apart.1 }
