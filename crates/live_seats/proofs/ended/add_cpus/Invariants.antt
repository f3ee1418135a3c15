use Rattle.std.proofs.Common.{◌≡◌, ◌≤◌, ◌++◌, ◌+◌, length, vec_len, vec_capacity}
use Rattle.std.specs.Vec.Iter.{into_iter_items}
use Rattle.live_seats.specs.AnySeats.{cpus_as_any}
use Rattle.live_seats.proofs.ended.add_cpus.Given as goal

abbrev pub invariant-loop-cpu : goal.invariant-loop-cpu
invariant-loop-cpu l = record {
  have : l.seats.items ≡ l.fn.seats.items ++ cpus_as_any l.yielded;
  room : vec_len l.seats + length (into_iter_items l.cpu-iterator) ≤ vec_capacity l.seats;
  rest : l.yielded ++ into_iter_items l.cpu-iterator ≡ l.fn.cpus.items;
}
