use Rattle.std.proofs.Common.{◌≡◌, ◌≤◌, ◌+◌, ◌∷◌, ◌++◌, length, vec_capacity}
use Rattle.std.specs.Vec.Iter.{into_iter_items}
use Rattle.live_seats.specs.AnySeats.{cpus_as_any}
use Rattle.live_seats.specs.declared.seat.AnySeat.TheVariants.{Control}
use Rattle.live_seats.proofs.ended.take_apart.Given as goal

abbrev pub invariant-loop-seat : goal.invariant-loop-seat
invariant-loop-seat l = record {
  own : l.yielded ≡ cpus_as_any l.cpus.items;
  room : length l.fn.seats.items ≤ vec_capacity l.cpus + 1;
  rest : Control l.control ∷ (l.yielded ++ into_iter_items l.seat-iterator) ≡ l.fn.seats.items;
}
