-- How many acts a task has done, counted by its items. `acts_passed` in Rules reads it off the plain run, and
-- `plain_forms::waits_count_what_is_finished` says that both are one.
use Rattle.std.specs.Prelude.{ℕ, zero, suc, ◌≤◌, Bool, false, not, ◌&&◌, ◌==◌, List, [], ◌∷◌, get_or, if◌then◌else◌}
use Rattle.std.specs.List.{list_any, AllByRecursion as Each}
use Rattle.ft_base.specs.declared.number.CallNo.{CallNo}
use Rattle.ft_base.specs.declared.item.Item.{Item}
use Rattle.ft_base.specs.declared.item.Item.TheVariants.{Enter, Body, Ret}
use Rattle.ft_base.specs.declared.task.TaskAct.{TaskAct}
use Rattle.ft_base.specs.declared.task.TaskAct.TheVariants.{Call, Ret as RetAct}
use Rattle.ft_base.specs.Same.{same_call}
use Rattle.ft_base.specs.Job.{Job, no_task, waits_before}
use Rattle.ft_hist.specs.Past.{begun, callbacks}

-- a callback of the task is open
abbrev pub is_in_callback : ℕ → List Item → Bool
is_in_callback t past = list_any (λ b. b.call.task.0 == t) (callbacks past)

-- the call is one of its task's script: it was entered outside of any callback of the task
abbrev pub is_scripted : CallNo → List Item → Bool
is_scripted call [] = false
is_scripted call (Enter c ctx f caller ∷ past) = if same_call c call then not (is_in_callback c.task.0 past) else is_scripted call past
is_scripted call (_ ∷ past) = is_scripted call past

-- how many calls and returns of its script the task has finished: a call by its Body, a return by its Ret
abbrev pub finished : ℕ → List Item → ℕ
finished t [] = 0
finished t (Body c g ran ∷ past) = if (c.task.0 == t) && is_scripted c past then suc (finished t past) else finished t past
finished t (Ret c to ∷ past) = if (c.task.0 == t) && is_scripted c past then suc (finished t past) else finished t past
finished t (_ ∷ past) = finished t past

-- how many calls and returns are among these acts
abbrev pub calls_and_returns : List TaskAct → ℕ
calls_and_returns [] = 0
calls_and_returns (Call f ∷ rest) = suc (calls_and_returns rest)
calls_and_returns (RetAct ∷ rest) = suc (calls_and_returns rest)
calls_and_returns (_ ∷ rest) = calls_and_returns rest

-- how long the longest beginning of these acts is that has no more than n calls and returns
abbrev pub longest_with : List TaskAct → ℕ → ℕ
longest_with [] n = 0
longest_with (Call f ∷ rest) zero = 0
longest_with (Call f ∷ rest) (suc n) = suc (longest_with rest n)
longest_with (RetAct ∷ rest) zero = 0
longest_with (RetAct ∷ rest) (suc n) = suc (longest_with rest n)
longest_with (_ ∷ rest) n = suc (longest_with rest n)

-- how many acts the task has done
abbrev pub acts_done : Job → ℕ → List Item → ℕ
acts_done job t past = longest_with (get_or job.tasks t no_task).acts (finished t past)

-- control's next command may begin: each wait `until t n` before it is for no more acts than the task has done
abbrev pub AreWaitsMet : Job → List Item → Type 0
AreWaitsMet job past = Each (λ w. w.1 ≤ acts_done job w.0 past) (waits_before (begun past) job.ctls)
