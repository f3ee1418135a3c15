-- What a judge keeps of the items so far, against what they tell.
use Rattle.std.specs.Prelude.{ℕ, zero, suc, ◌≡◌, ◌<◌, ◌≤◌, true, false, Bool, List, [], ◌∷◌, length, map, Option, Some, None, slice_get, IfSome}
use Rattle.std.specs.List.{AllByRecursion as Each}
use Rattle.ft_base.specs.declared.number.CallNo.{CallNo}
use Rattle.ft_base.specs.declared.item.Item.{Item}
use Rattle.ft_base.specs.declared.item.Item.TheVariants.{Enter}
use Rattle.ft_base.specs.Items.{call_of}
use Rattle.ft_base.specs.Job.{Job, Ctl, Run, Until, commands, waits_before}
use Rattle.ft_base.specs.Versions.{levels}
use Rattle.user_specs.specs.Plain.{spec_of}
use Rattle.ft_desk.specs.Lines.{lines_of}
use Rattle.ft_hist.specs.Past.{begun, callbacks, done}
use Rattle.ft_hist.specs.Plain.{at_start, plain}
use Rattle.ft_hist.specs.Rules.{HasEnded, MayFollow, acts_passed}
use Rattle.history_check.specs.declared.open_call.OpenCall.{OpenCall}
use Rattle.history_check.specs.declared.task_past.TaskPast.{TaskPast}
use Rattle.history_check.specs.declared.past.Past.{Past}
use Rattle.history_check.specs.declared.verdict.Rule.{Rule}
use Rattle.history_check.specs.CallbackList.{callbacks_of}
use Rattle.history_check.specs.TaskCalls.{IsTaskPast, IsTop}
use Rattle.history_check.specs.DeskRows.{AreOf}
use Rattle.history_check.specs.Parts.{BreaksFirst}

-- ## control

-- control's lines after those up to its command of this number, from 1
unfoldable pub lines_after : ℕ → List Ctl → List Ctl
lines_after zero ctls = ctls
lines_after (suc n) [] = []
lines_after (suc n) (Until t acts ∷ rest) = lines_after (suc n) rest
lines_after (suc n) (Run c ∷ rest) = lines_after n rest

-- the waits before that command
abbrev pub waits_passed : ℕ → List Ctl → List (ℕ × ℕ)
waits_passed zero ctls = []
waits_passed (suc n) ctls = waits_before n ctls

-- a task has done the acts that a wait wants
abbrev pub IsMet : Job → List Item → ℕ × ℕ → Type 0
IsMet job past w = IfSome (plain job w.0 past) (λ s. w.1 ≤ acts_passed s)

-- ## all

-- what is kept is what the items tell; the tasks are on their plain runs after `now`, which is the past, or one item more
pub record IsPastAt (job : Job) (past now : List Item) (p : Past) : Type 0 where
  pub desks : AreOf job p.desks
  pub specs : map spec_of p.specs.now ≡ job.users
  pub frames : p.frames ≡ job.frames
  pub levels' : p.levels ≡ levels job
  pub lines : lines_of (length job.tasks) p.lines.now ≡ lines_after (begun past) job.ctls
  pub waited : Each (IsMet job past) (waits_passed (begun past) job.ctls)
  pub size : length p.tasks.items ≡ length job.tasks
  pub each : (t : ℕ) (x : TaskPast) → slice_get p.tasks.items t ≡ Some x → IsTaskPast job past now t x
  pub others : (t : ℕ) → length job.tasks ≤ t → plain job t past ≡ Some (at_start job t)
  pub callbacks' : callbacks_of p.callbacks ≡ callbacks past
  pub done' : p.done ≡ done past
  pub begun' : p.begun ≡ begun past
  pub place : p.place ≡ length past

-- what is kept is what the items tell
abbrev pub IsPast : Job → List Item → Past → Type 0
IsPast job past p = IsPastAt job past past p

-- ## the call of the next item

-- an entry
abbrev pub is_enter : Item → Bool
is_enter (Enter call ctx f caller) = true
is_enter _ = false

-- the next item, if it is of a call, is of a task of the job, and of its top call if it doesn't enter one
abbrev pub IsTopOf : Job → List Item → Item → Option OpenCall → Type 0
IsTopOf job past item top =
    (call : CallNo) → call_of item ≡ Some call
    → (call.task.0 < length job.tasks) × (is_enter item ≡ false → (c : OpenCall) × (top ≡ Some c) × IsTop job past call c)

-- ## the verdict on the next item

-- what is said of an item: the first part that it breaks, or else none, and then it may follow
abbrev pub IsFirstBroken : Job → List Item → Item → Option Rule → Type 0
IsFirstBroken job past item None = MayFollow job past item
IsFirstBroken job past item (Some rule) = BreaksFirst rule job past item

-- the same, and if it may follow it is taken in
pub record IsNext (job : Job) (past : List Item) (item : Item) (broken : Option Rule) (p : Past) : Type 0 where
  pub told' : IsFirstBroken job past item broken
  pub kept : broken ≡ None → IsPast job (item ∷ past) p

-- ## the beginning

-- the tasks of a job before their first acts
abbrev pub AreStarting : Job → List TaskPast → Type 0
AreStarting job xs = (length xs ≡ length job.tasks) × ((t : ℕ) (x : TaskPast) → slice_get xs t ≡ Some x → IsTaskPast job [] [] t x)

-- ## the end

-- all commands have returned, and each task is at the end of its run
pub record IsAtEnd (job : Job) (past : List Item) : Type 0 where
  pub returned : done past ≡ length (commands job)
  pub tasks : (t : ℕ) → t < length job.tasks → IfSome (plain job t past) (HasEnded (done past))
