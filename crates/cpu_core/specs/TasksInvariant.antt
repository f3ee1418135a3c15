-- The fields of a CPU's tasks, and what contracts see of them.
use Rattle.std.specs.Prelude.{ℕ, ◌≤◌, List, length}
use Rattle.ft_base.specs.declared.limits.TheConstants.{TASKS}
use Rattle.task_core.specs.declared.task.Task.{Task}
use Rattle.cpu_core.specs.declared.tasks.Tasks.TheInside.{Inside}
use Rattle.cpu_core.specs.declared.tasks.Span.{Span}
use Rattle.cpu_core.specs.Turns.{HaveTold, RestTold}

-- what contracts see
abbrev pub tasks_of : Inside → List Task
tasks_of d = d.tasks.items

-- each task's word tells this request, but for those that may have changed
pub record AreTold (r : ℕ) (changed : Span) (ts : List Task) : Type 0 where
  pub before : HaveTold r changed.from ts
  pub after : RestTold r changed.to ts
  pub within : changed.to ≤ length ts

-- there are no more than a script may have
pub record TasksInvariant (d : Inside) : Type 0 where
  pub few : length d.tasks.items ≤ TASKS
  pub told : AreTold d.told d.changed d.tasks.items
