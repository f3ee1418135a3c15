-- The seats so far are those of the first CPUs, in order, and there is room for the rest.
use Rattle.std.proofs.Common.{◌≡◌, ◌++◌, ℕ, Some, length, slice_get, vec_capacity}
use Rattle.std.specs.Vec.Iter.{into_iter_items}
use Rattle.live_table.specs.Seats.{ControlSitsAt, CpuPlace, IsNewCpu}
use Rattle.live_table.proofs.live.Live.deal_all.Given as goal

abbrev pub invariant-loop-cpu : goal.invariant-loop-cpu
invariant-loop-cpu l = record {
  sits : ControlSitsAt l.self l.control;
  split : l.control.split ≡ length l.yielded;
  control : l.control ≡ record l.fn.control { split = length l.yielded };
  count : length l.seats.items ≡ length l.yielded;
  room : vec_capacity l.seats ≡ l.count;
  each : (k : ℕ) (s : CpuPlace) → slice_get l.seats.items k ≡ Some s → IsNewCpu l.self s k;
  rest : l.yielded ++ into_iter_items l.cpu-iterator ≡ l.fn.cpus.items;
}
