-- The tasks of a script and their acts, as plain data.
use Rattle.std.specs.Prelude.{ℕ, List, map}
use Rattle.script_waits.specs.declared.script.LinedAct.{LinedAct}
use Rattle.script_waits.specs.declared.script.LinedTask.{LinedTask as KeptTask}

-- a task: its pid, its CPU and its acts, each with its line
pub record LinedTask : Type 0 where
  pub pid : ℕ
  pub cpu : ℕ
  pub acts : List LinedAct

-- a task as the program keeps it
abbrev pub lined_task : KeptTask → LinedTask
lined_task task = record { pid = task.pid; cpu = task.cpu; acts = task.acts.items }

-- the track of each task: its acts
abbrev pub tracks_of : List LinedTask → List (List LinedAct)
tracks_of tasks = map (λ task. task.acts) tasks
