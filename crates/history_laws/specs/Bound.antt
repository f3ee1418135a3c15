-- How many items of a task a history has, and how many calls its script makes.
use Rattle.std.specs.Prelude.{ℕ, suc, ◌+◌, List, [], ◌∷◌, get_or, if◌then◌else◌}
use Rattle.ft_base.specs.declared.item.Item.{Item}
use Rattle.ft_base.specs.declared.task.TaskAct.{TaskAct}
use Rattle.ft_base.specs.declared.task.TaskAct.TheVariants.{Call}
use Rattle.ft_base.specs.Job.{Job, Task, no_task}
use Rattle.ft_hist.specs.Past.{is_of}

-- the items of a task
abbrev pub items_of : ℕ → List Item → ℕ
items_of t [] = 0
items_of t (item ∷ items) = if is_of t item then suc (items_of t items) else items_of t items

-- the calls that acts make
abbrev pub calls_in : List TaskAct → ℕ
calls_in [] = 0
calls_in (Call f ∷ rest) = suc (calls_in rest)
calls_in (_ ∷ rest) = calls_in rest

-- the calls that a task's script makes
abbrev pub calls_of : Job → ℕ → ℕ
calls_of job t = calls_in (get_or job.tasks t no_task).acts

-- the calls that all tasks' scripts make
abbrev pub all_calls : List Task → ℕ
all_calls [] = 0
all_calls (t ∷ ts) = calls_in t.acts + all_calls ts
