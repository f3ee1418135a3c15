-- What is kept of the open calls of a task, against what the items tell of them.
use Rattle.std.specs.Prelude.{ℕ, ◌≡◌, ◌<◌, Bool, true, false, not, ◌&&◌, List, [], ◌∷◌, length, map, Option, Some, None, option_map, slice_get, ◌+◌}
use Rattle.std.specs.List.{AllByRecursion as Each, filter}
use Rattle.ft_base.specs.declared.number.CallNo.{CallNo}
use Rattle.ft_base.specs.declared.context.Ctx.{Ctx}
use Rattle.ft_base.specs.declared.item.Item.{Item}
use Rattle.ft_base.specs.declared.item.Item.TheVariants.{Enter, Ret}
use Rattle.ft_base.specs.Items.{call_of}
use Rattle.ft_base.specs.Job.{Job}
use Rattle.ft_base.specs.Desk.{spec_at}
use Rattle.ft_base.specs.Kinds.{cancels}
use Rattle.ft_hist.specs.Known.{holds}
use Rattle.ft_hist.specs.Past.{Callback, ctx_of, done_at_leave, entered, exits, held, is_dispatched, is_open, miss_due, visits}
use Rattle.ft_hist.specs.Past as told
use Rattle.ft_hist.specs.Plain.{Frame, PlainTask, plain}
use Rattle.history_check.specs.declared.open_call.OpenCall.{OpenCall}
use Rattle.history_check.specs.declared.open_call.Visit.{Visit}
use Rattle.history_check.specs.declared.task_past.Due.{Due}
use Rattle.history_check.specs.declared.task_past.TaskPast.{TaskPast}

-- ## a call

-- a visit in this call
abbrev pub visit_of : CallNo → Visit → told.Visit
visit_of call m =
    record { call = call; user = m.user.0; reg = m.reg; since = m.since; place = m.place; back = m.back; framed = m.framed }

-- what is kept of a call is what the items tell of it, and it is open
pub record IsOpenCall (job : Job) (past : List Item) (c : OpenCall) : Type 0 where
  pub entered' : (caller : Option CallNo) × (entered c.call past ≡ Some (record { ctx = c.ctx; func = c.func.0; caller = caller; from = c.from }))
  pub open' : is_open c.call past ≡ true
  pub dispatched : c.dispatched ≡ is_dispatched c.call past
  pub visits' : map (visit_of c.call) c.visits.items ≡ visits job c.call past
  pub exits' : c.exits.items ≡ exits c.call past
  pub left : c.left ≡ done_at_leave c.call past

-- a call that was just entered
abbrev pub called : OpenCall → CallNo → Ctx → ℕ → ℕ → ℕ → Type 0
called c call ctx f from held =
    (c.call ≡ call) × (c.ctx ≡ ctx) × (c.func.0 ≡ f) × (c.from ≡ from) × (c.held ≡ held)
    × (c.dispatched ≡ false) × (c.visits.items ≡ []) × (c.exits.items ≡ []) × (c.left ≡ 0)

-- a visit got a frame, and its call holds that still
abbrev pub keeps_frame : Job → Bool → Visit → Bool
keeps_frame job dispatched m = m.framed && not (dispatched && cancels (spec_at job m.user.0).kind)

-- ## the calls of a task

-- the calls of a stack
abbrev pub calls_of : List Frame → List CallNo
calls_of fs = map (λ f. f.call) fs

-- how many of these calls hold a frame
abbrev pub holding : Job → List Item → List OpenCall → ℕ
holding job past cs = length (filter (λ c. holds job past c.call) cs)

-- each call of a stack knows how many of those below it hold a frame
unfoldable pub AreStacked : Job → List Item → List OpenCall → Type 0
AreStacked job past [] = Unit {0}
AreStacked job past (c ∷ below) = (c.held ≡ holding job past below) × AreStacked job past below

-- ## a task

-- the miss that is due
abbrev pub due_of : Due → Callback
due_of d = record { call = d.call; user = d.user.0; ctx = None }

-- what is kept of a task is what the items tell of it, and the task is on its plain run after `now`, which is the past, or one item more
pub record IsTaskPast (job : Job) (past now : List Item) (t : ℕ) (x : TaskPast) : Type 0 where
  pub run : plain job t now ≡ Some x.run
  pub stack : (s : PlainTask) × (plain job t past ≡ Some s) × (map (λ c. c.call) x.calls.items ≡ calls_of s.stack)
  pub calls : Each (IsOpenCall job past) x.calls.items
  pub stacked : AreStacked job past x.calls.items
  pub due : option_map due_of x.due ≡ miss_due job t past

-- the calls of a task are what the items tell of them
pub record AreCallsOf (job : Job) (past : List Item) (t : ℕ) (cs : List OpenCall) : Type 0 where
  pub stack : (s : PlainTask) × (plain job t past ≡ Some s) × (map (λ c. c.call) cs ≡ calls_of s.stack)
  pub calls : Each (IsOpenCall job past) cs
  pub stacked : AreStacked job past cs

-- so many tasks of the job, in order
abbrev pub AreTasksOf : Job → List Item → List Item → List TaskPast → Type 0
AreTasksOf job past now xs = (length xs ≡ length job.tasks) × ((t : ℕ) (x : TaskPast) → slice_get xs t ≡ Some x → IsTaskPast job past now t x)

-- one frame more can be counted over the task's top call
abbrev pub HasRoom : TaskPast → Type 0
HasRoom x = (c : OpenCall) → slice_get x.calls.items 0 ≡ Some c → c.held + 1 < 4294967296

-- ## one item more

-- an item in a call: neither its entry nor its return
abbrev pub is_inside : Item → Bool
is_inside (Enter call ctx f caller) = false
is_inside (Ret call to) = false
is_inside _ = true

-- an item, if it is of a call, is of a task of the job
abbrev pub IsOfJob : Job → Item → Type 0
IsOfJob job item = (call : CallNo) → call_of item ≡ Some call → call.task.0 < length job.tasks

-- a list behind one that may come first
abbrev pub with_first : {A : Type 0} → Option A → List A → List A
with_first None xs = xs
with_first (Some x) xs = x ∷ xs

-- what an item is as a visit: the one more that its call has then
abbrev pub IsVisitBy : Job → List Item → Item → Option Visit → Type 0
IsVisitBy job past item visit =
    (call : CallNo) → call_of item ≡ Some call → visits job call (item ∷ past) ≡ with_first (option_map (visit_of call) visit) (visits job call past)

-- the miss that is due in an item's task after it
abbrev pub IsDueBy : Job → List Item → Item → Option Due → Type 0
IsDueBy job past item due = (call : CallNo) → call_of item ≡ Some call → option_map due_of due ≡ miss_due job call.task.0 (item ∷ past)

-- the context of the call that an item is in, if that was entered
abbrev pub IsContextOf : List Item → Item → Option Ctx → Type 0
IsContextOf past item ctx = (call : CallNo) → call_of item ≡ Some call → is_inside item ≡ true → ctx_of call past ≡ ctx

-- ## the call of an item

-- the call is the top one of its task: all that is kept of it holds, and `held` is the number of the task's other calls that hold a frame
pub record IsTop (job : Job) (past : List Item) (call : CallNo) (c : OpenCall) : Type 0 where
  pub call' : c.call ≡ call
  pub task : call.task.0 < length job.tasks
  pub is : IsOpenCall job past c
  pub held' : held job call past ≡ c.held
