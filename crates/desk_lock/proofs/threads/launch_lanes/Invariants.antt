use Rattle.std.proofs.Common.{◌≡◌, ◌≤◌, ◌++◌, length, vec_len, vec_capacity}
use Rattle.std.specs.Vec.Iter.{into_iter_items}
use Rattle.desk_lock.proofs.threads.launch_lanes.Given as goal

abbrev pub invariant-loop-seat : goal.invariant-loop-seat
invariant-loop-seat g l = record {
  count : l.launched ≡ length l.yielded;
  few : vec_len l.left ≤ l.launched;
  room : length l.fn.seats.items ≤ vec_capacity l.left;
  rest : l.yielded ++ into_iter_items l.seat-iterator ≡ l.fn.seats.items;
}
