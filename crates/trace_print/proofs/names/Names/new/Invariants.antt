use Rattle.std.proofs.Common.{◌≡◌, ◌≤◌, map, vec_capacity, vec_len, length}
use Rattle.std.specs.List.{range_with_len}
use Rattle.trace_print.specs.TaskNames.{name_at}
use Rattle.trace_print.proofs.names.Names.new.Given as goal

abbrev pub invariant-loop-t : goal.invariant-loop-t
invariant-loop-t l = record {
  tasks : l.tasks.items ≡ map (name_at l.job) (range_with_len 0 l.t);
  count : vec_len l.tasks ≡ l.t;
  room : length l.job.tasks ≤ vec_capacity l.tasks;
}
