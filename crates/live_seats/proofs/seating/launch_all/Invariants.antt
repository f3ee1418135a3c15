use Rattle.std.proofs.Common.{◌≡◌, ◌≤◌, ◌++◌, length, vec_len, vec_capacity}
use Rattle.std.specs.Vec.Iter.{into_iter_items}
use Rattle.live_seats.specs.AnySeats.{AreSameSeats}
use Rattle.live_seats.specs.Seatings.{here_in, seats_in}
use Rattle.live_seats.proofs.seating.launch_all.Given as goal

abbrev pub invariant-loop-seat : goal.invariant-loop-seat
invariant-loop-seat g l = record {
  same : AreSameSeats l.yielded (seats_in l.places.items l.here.items);
  here' : here_in l.places.items ≡ length l.here.items;
  made : vec_len l.places ≡ length l.yielded;
  few : vec_len l.here ≤ length l.yielded;
  room : length l.fn.seats.items ≤ vec_capacity l.places;
  room' : length l.fn.seats.items ≤ vec_capacity l.here;
  rest : l.yielded ++ into_iter_items l.seat-iterator ≡ l.fn.seats.items;
}
