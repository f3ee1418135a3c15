use Rattle.std.proofs.Common.{List, [], ◌∷◌, ◌++◌, length, Option, ◌∙◌, ap, subst, arith}
use Rattle.std.proofs.lemmas.Slice.Zip.{AllZip-long}
use Rattle.ring_table.specs.Seats.{Board as RingBoard}
use Rattle.live_seats.specs.AnySeats.{AreSeatsOf, IsSameSeat, tables}
use Rattle.live_seats.specs.Seatings.{own_seats, seats_in}
use Rattle.live_seats.specs.declared.seat.AnySeat.{AnySeat}
use Rattle.live_seats.specs.declared.seat.AnySeat.TheVariants.{Control}
use Rattle.live_seats.proofs.Alike.{all_same_then, over_then, same_table}
use Rattle.live_seats.proofs.Places.{as_many, here_many, own_sit, stepped_in}
use Rattle.live_lanes.proofs.run.run_beside.Goals as goal

pub conduct_all-control-requires-clause-here : goal.conduct_all-control-requires-clause-here
conduct_all-control-requires-clause-here g c =
    let l = c.launch_all-places in
    let ps = l.result.places.items in
    let hs = l.result.here.items in
    let sit = same_table (tables c.args.live.now c.args.rings.now) c.args.seats.items (seats_in ps hs) c.requires.seats l.ensures.same in
    let here = own_sit (tables c.args.live.now c.args.rings.now) ps hs l.ensures.here sit in
    λ _ _. subst (λ (r : Option RingBoard). AreSeatsOf (tables c.args.live.now r) (own_seats hs)) c.requires.rings here

pub end_all-requires-clause-seats : goal.end_all-requires-clause-seats
end_all-requires-clause-seats g c =
    let l = c.launch_all-places in
    let ps = l.result.places.items in
    let hs = l.result.here.items in
    let r = c.conduct_all-control in
    let gs = r.result.1.items in
    let same = all_same_then c.args.seats.items (seats_in ps hs) (seats_in ps gs) l.ensures.same
    (stepped_in ps hs gs l.ensures.here r.ensures.here) in
    λ _ _. same_table (tables c.args.live.now c.args.rings.now) c.args.seats.items (seats_in ps gs) c.requires.seats same

pub end_all-requires-clause-here : goal.end_all-requires-clause-here
end_all-requires-clause-here g c =
    let l = c.launch_all-places in
    let r = c.conduct_all-control in
    λ _ _. here_many l.result.places.items l.result.here.items r.result.1.items l.ensures.here r.ensures.here

pub end_all-requires-clause-room : goal.end_all-requires-clause-room
end_all-requires-clause-room g c =
    let l = c.launch_all-places in
    let ps = l.result.places.items in
    let hs = l.result.here.items in
    let n = as_many ps hs l.ensures.here in
    let m = AllZip-long IsSameSeat c.args.seats.items (seats_in ps hs) l.ensures.same in
    let e = ap length c.requires.ended.0 in
    let r = c.requires.ended.1 in
    let p = c.push_reserved.ensures.len in
    let q = c.push_reserved.ensures.capacity in
    λ _ _. omega (arith, n, m, e, r, p, q)

pub returns : goal.returns
returns g c =
    let l = c.launch_all-places in
    let ps = l.result.places.items in
    let hs = l.result.here.items in
    let r = c.conduct_all-control in
    let gs = r.result.1.items in
    let same = all_same_then c.args.seats.items (seats_in ps hs) (seats_in ps gs) l.ensures.same
    (stepped_in ps hs gs l.ensures.here r.ensures.here) in
    let f = c.end_all.ensures in
    record {
      control = r.result.0;
      cpus = f.0;
      back' = f.1 ∙ ap (λ (l : List AnySeat). l ++ f.0) (c.push_reserved.ensures.items
          ∙ ap (λ (l : List AnySeat). l ++ Control r.result.0 ∷ []) c.requires.ended.0);
      cpus' = over_then c.args.seats.items (seats_in ps gs) f.0 same f.2;
      sits = r.ensures.control.0;
      over = r.ensures.control.1;
      merge = r.ensures.order;
    }
