-- The tasks so far are those of the plans, and there is room for the rest.
use Rattle.std.proofs.Common.{◌≡◌, ◌≤◌, length, take, vec_capacity}
use Rattle.cpu_core.specs.Turns.{AreStarted}
use Rattle.cpu_core.proofs.tasks.Tasks.new.Given as goal

abbrev pub invariant-loop-plan : goal.invariant-loop-plan
invariant-loop-plan l = record {
  started : AreStarted l.frames l.levels (take l.plan-index l.plans) l.tasks.items;
  count : length l.tasks.items ≡ l.plan-index;
  room : length l.plans ≤ vec_capacity l.tasks;
}
