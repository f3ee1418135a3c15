-- The acts that a task has left, and which tasks are on a CPU.
use Rattle.std.specs.Prelude.{ℕ, suc, Bool, true, false, ◌==◌, List, [], ◌∷◌, if◌then◌else◌}
use Rattle.ft_base.specs.declared.task.TaskAct.{TaskAct}
use Rattle.ft_base.specs.Job.{Job, Task}

-- an act is left
abbrev pub has_acts : List TaskAct → Bool
has_acts [] = false
has_acts (a ∷ rest) = true

-- the tasks of a CPU among these, of which the first has number n
abbrev pub tasks_from : ℕ → ℕ → List Task → List ℕ
tasks_from c n [] = []
tasks_from c n (t ∷ rest) = if t.cpu == c then n ∷ tasks_from c (suc n) rest else tasks_from c (suc n) rest

-- the tasks of a CPU, by number
abbrev pub tasks_of : Job → ℕ → List ℕ
tasks_of job c = tasks_from c 0 job.tasks
