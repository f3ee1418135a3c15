-- The calls of the tasks so far.
use Rattle.std.proofs.Common.{◌≡◌, ◌≤◌, ◌*◌, sum_by, take}
use Rattle.ft_base.specs.declared.limits.TheConstants.{ACTS}
use Rattle.user_specs.specs.declared.plan.TaskPlan.{TaskPlan}
use Rattle.history_laws.specs.Bound.{calls_in}
use Rattle.ft_machine.proofs.cpus.calls_of.Given as goal

abbrev pub invariant-loop-task : goal.invariant-loop-task
invariant-loop-task l = record {
  calls : l.calls ≡ sum_by (λ (p : TaskPlan). calls_in p.acts.items) (take l.task-index l.task-items);
  few : l.calls ≤ l.task-index * ACTS;
}
