use Rattle.std.proofs.Common.{◌≡◌, List, ◌++◌, length, ◌∙◌, sym, ap, subst, arith}
use Rattle.std.proofs.lemmas.Slice.Zip.{AllZip-long}
use Rattle.live_seats.specs.AnySeats.{AreEndedSeats, IsSameSeat, tables}
use Rattle.live_seats.specs.Seatings.{seats_in}
use Rattle.live_seats.specs.declared.seat.AnySeat.{AnySeat}
use Rattle.live_seats.proofs.Alike.{over_then, same_table}
use Rattle.live_seats.proofs.Places.{as_many}
use Rattle.live_threads.proofs.run.run_all.Goals as goal

pub end_all-requires-clause-seats : goal.end_all-requires-clause-seats
end_all-requires-clause-seats g c =
    let l = c.launch_all-seating in
    λ _ _. same_table (tables c.args.live.now c.args.rings.now) c.args.seats.items (seats_in l.result.places.items l.result.here.items) c.requires.seats l.ensures.same

pub end_all-requires-clause-room : goal.end_all-requires-clause-room
end_all-requires-clause-room g c =
    let l = c.launch_all-seating in
    let ps = l.result.places.items in
    let hs = l.result.here.items in
    let n = as_many ps hs l.ensures.here in
    let m = AllZip-long IsSameSeat c.args.seats.items (seats_in ps hs) l.ensures.same in
    let e = ap length c.requires.ended.0 in
    let r = c.requires.ended.1 in
    λ _ _. omega (arith, n, m, e, r)

pub returns : goal.returns
returns g c =
    let l = c.launch_all-seating in
    let f = c.end_all.ensures in
    let all : c.end_all.result.items ≡ f.0 = f.1 ∙ ap (λ (l : List AnySeat). l ++ f.0) c.requires.ended.0 in
    subst (AreEndedSeats c.args.seats.items) (sym all) (over_then c.args.seats.items (seats_in l.result.places.items l.result.here.items) f.0 l.ensures.same f.2)
