-- The CPUs of the first tasks are there, and there is room for the others.
use Rattle.std.proofs.Common.{◌≡◌, ◌≤◌, map, take, vec_capacity, vec_len}
use Rattle.trace_rings.proofs.plan.cpus_of_tasks.Given as goal

abbrev pub invariant-loop-t : goal.invariant-loop-t
invariant-loop-t l = record {
  cpus : l.cpus.items ≡ map (λ t. t.cpu) (take l.t l.job.tasks);
  count : vec_len l.cpus ≡ l.t;
  room : l.count ≤ vec_capacity l.cpus;
}
