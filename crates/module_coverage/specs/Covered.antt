-- Which calls of functions of modules are covered: the module is loaded at each moment at which the call may be under way.
use Rattle.std.specs.Prelude.{◌≡◌, ℕ, zero, suc, ◌≤◌, ◌&&◌, ◌==◌, nat_le, true, List, [], ◌∷◌, take, drop, get_or, slice_get, Some, if◌then◌else◌}
use Rattle.ft_base.specs.declared.number.FuncNo.{FuncNo}
use Rattle.ft_base.specs.declared.task.TaskAct.{TaskAct}
use Rattle.ft_base.specs.declared.task.TaskAct.TheVariants.{Call, Ret, After}
use Rattle.ft_base.specs.Job.{Job, Ctl, Run, Until, no_task}
use Rattle.func_table.specs.Modules.{module_of}
use Rattle.module_coverage.specs.Loaded.{is_changing, is_loaded}

-- ## when a call may begin, and when it has returned

-- the greatest number of the acts `after N` among these, or this one if it is greater
abbrev pub last_after : ℕ → List TaskAct → ℕ
last_after n [] = n
last_after n (After k ∷ acts) = last_after (if nat_le n k then k else n) acts
last_after n (_ ∷ acts) = last_after n acts

-- the number, from 1, of the act by which a call returns: `n` acts are above these, and `inner` calls that were entered after it
-- have not returned there
abbrev pub return_number : ℕ → ℕ → List TaskAct → ℕ
return_number n inner [] = n
return_number n zero (Ret ∷ acts) = suc n
return_number n (suc inner) (Ret ∷ acts) = return_number (suc n) inner acts
return_number n inner (Call f ∷ acts) = return_number (suc n) (suc inner) acts
return_number n inner (_ ∷ acts) = return_number (suc n) inner acts

-- how many commands are above control's first wait for so many acts of the task, or in all if there is no such wait; `k` commands
-- are above these lines
abbrev pub commands_until : ℕ → ℕ → ℕ → List Ctl → ℕ
commands_until t n k [] = k
commands_until t n k (Run c ∷ ctls) = commands_until t n (suc k) ctls
commands_until t n k (Until u m ∷ ctls) = if (u == t) && nat_le n m then k else commands_until t n k ctls

-- ## coverage

-- the acts of a task
abbrev pub acts_of : Job → ℕ → List TaskAct
acts_of job t = (get_or job.tasks t no_task).acts

-- so many commands have returned when the call at this place of the task's acts begins, or more
abbrev pub from_command : Job → ℕ → ℕ → ℕ
from_command job t i = last_after 0 (take i (acts_of job t))

-- so many commands have begun when it has returned, or fewer
abbrev pub to_command : Job → ℕ → ℕ → ℕ
to_command job t i = commands_until t (return_number (suc i) 0 (drop (suc i) (acts_of job t))) 0 job.ctls

-- the call at this place of the task's acts, of a function of module m, is covered
abbrev pub IsCovered : Job → ℕ → ℕ → ℕ → Type 0
IsCovered job t i m = (k : ℕ) → from_command job t i ≤ k → k ≤ to_command job t i → is_loaded job.lines m k ≡ true

-- each scripted call of a function of a module is covered. Of a module that no line names nothing is asked: it is always loaded
abbrev pub AreCovered : Job → Type 0
AreCovered job = (t i m : ℕ) (f : FuncNo) → slice_get (acts_of job t) i ≡ Some (Call f) → module_of job.functions f.0 ≡ Some m → IsCovered job t i m

-- the function lies in a module that some line names
abbrev pub IsInChanging : Job → ℕ → Type 0
IsInChanging job f = (m : ℕ) × (module_of job.functions f ≡ Some m) × (is_changing job.lines m ≡ true)
