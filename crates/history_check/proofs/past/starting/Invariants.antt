use Rattle.std.proofs.Common.{◌≡◌, ℕ, ◌-◌, ◌≤◌, [], length, Some}
use Rattle.std.specs.Prelude.{slice_get}
use Rattle.history_check.specs.declared.task_past.TaskPast.{TaskPast}
use Rattle.history_check.specs.TaskCalls.{IsTaskPast}
use Rattle.history_check.proofs.past.starting.Given as goal

-- the tasks below this one are there
abbrev pub invariant-loop-acts : goal.invariant-loop-acts
invariant-loop-acts l = record {
  within : l.task ≤ length l.job.tasks;
  size : length l.tasks.items ≡ l.task;
  each : (t : ℕ) (x : TaskPast) → slice_get l.tasks.items t ≡ Some x → IsTaskPast l.job [] [] t x;
}

abbrev pub decreases-loop-acts : goal.decreases-loop-acts
decreases-loop-acts l = length l.job.tasks - l.task
