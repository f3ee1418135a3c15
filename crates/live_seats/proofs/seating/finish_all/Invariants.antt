use Rattle.std.proofs.Common.{◌≡◌, ◌≤◌, ◌+◌, List, ◌++◌, length, vec_len, vec_capacity}
use Rattle.std.specs.Vec.Iter.{into_iter_items}
use Rattle.live_seats.specs.AnySeats.{AreAtEnd, AreEndedSeats, AreSeatsOf, tables}
use Rattle.live_seats.specs.declared.seat.AnySeat.{AnySeat}
use Rattle.live_seats.specs.Seatings.{here_in, own_seats, seats_in}
use Rattle.live_seats.proofs.seating.finish_all.Given as goal

abbrev pub invariant-loop-place : goal.invariant-loop-place
invariant-loop-place g l = record {
  left : AreSeatsOf (tables l.live l.rings) (seats_in (into_iter_items l.place-iterator) (into_iter_items l.rest));
  here' : here_in (into_iter_items l.place-iterator) ≡ length (into_iter_items l.rest);
  ended' : AreAtEnd (own_seats (into_iter_items l.rest));
  over : (done : List AnySeat) × (l.ended.items ≡ l.fn.ended.items ++ done)
      × ((others : List AnySeat) → AreEndedSeats (seats_in (into_iter_items l.place-iterator) (into_iter_items l.rest)) others → AreEndedSeats (seats_in l.fn.seating.places.items l.fn.seating.here.items) (done ++ others));
  room : vec_len l.ended + length (into_iter_items l.place-iterator) ≤ vec_capacity l.ended;
}
