use Rattle.std.proofs.Common.{◌≡◌, ℕ, ◌<◌, Some}
use Rattle.std.specs.Prelude.{slice_get}
use Rattle.ft_hist.specs.Rules.{HasEnded}
use Rattle.history_check.specs.declared.task_past.TaskPast.{TaskPast}
use Rattle.history_check.proofs.past.Past.have_ended.Given as goal

-- the tasks so far have ended
abbrev pub invariant-loop-task : goal.invariant-loop-task
invariant-loop-task l = record {
  those : l.task-items ≡ l.self.tasks.items;
  ended : (t : ℕ) (x : TaskPast) → t < l.task-index → slice_get l.self.tasks.items t ≡ Some x → HasEnded l.self.done x.run;
}
