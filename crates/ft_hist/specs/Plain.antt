-- The plain run of a task: its acts on an ordinary stack of calls, read off the task's items one by one.
use Rattle.std.specs.Prelude.{ℕ, suc, Bool, true, false, ◌&&◌, ◌==◌, nat_lt, nat_le, List, [], ◌∷◌, get_or, Option, Some, None, if◌then◌else◌}
use Rattle.ft_base.specs.declared.number.CallNo.{CallNo}
use Rattle.ft_base.specs.declared.context.Ctx.{Ctx}
use Rattle.ft_base.specs.declared.context.Ctx.TheVariants.{Irq}
use Rattle.ft_base.specs.declared.item.Item.{Item}
use Rattle.ft_base.specs.declared.item.Item.TheVariants.{Enter, Back, BackEnd, Refuse, Miss, Body, Leave, Exit, ExitEnd, Ret}
use Rattle.ft_base.specs.declared.task.TaskAct.{TaskAct}
use Rattle.ft_base.specs.declared.task.TaskAct.TheVariants.{Call, Ret as RetAct, Raise, Lower, After}
use Rattle.ft_base.specs.declared.user.Act.{Act}
use Rattle.ft_base.specs.declared.user.Act.TheVariants.{CallIn, IrqIn}
use Rattle.ft_base.specs.Same.{same_call, same_ctx, rank, context}
use Rattle.ft_base.specs.Job.{Job, no_task}
use Rattle.ft_base.specs.Desk.{spec_at}
use Rattle.ft_hist.specs.Past.{done, is_of}

-- a call that a user's act owes: in which context, of which function
pub record Owed : Type 0 where
  pub ctx : Ctx
  pub func : ℕ

-- how far a call is: in its dispatch, in an entry callback that may owe a call and may have a Miss directly after its Back,
-- in its body, in its return, or in an exit callback
pub data Phase : Type 0 where
  Dispatch : Phase
  InBack : (user : ℕ) → (owed : Option Owed) → (fresh : Bool) → Phase
  Running : Phase
  Leaving : Phase
  InExit : (user : ℕ) → Phase

-- a call on the plain stack. It is scripted, or made by a user's act
pub record Frame : Type 0 where
  pub call : CallNo
  pub ctx : Ctx
  pub func : ℕ
  pub scripted : Bool
  pub phase : Phase

-- a task on its plain run: the number of its next call, its acts to come, how many acts it has done, its raised contexts,
-- the latest first, and its stack of calls, the top first
pub record PlainTask : Type 0 where
  pub next : ℕ
  pub acts : List TaskAct
  pub gone : ℕ
  pub contexts : List Ctx
  pub stack : List Frame

-- the contexts after the latest is left
abbrev pub below_top : List Ctx → List Ctx
below_top [] = []
below_top (c ∷ rest) = rest

-- what is left after the acts that give no items, as far as their waits are met, with the contexts then and how many there were
pub record Ahead : Type 0 where
  pub acts : List TaskAct
  pub contexts : List Ctx
  pub gone : ℕ

-- the acts to come without those that give no items, as far as their waits are met by this many returned commands
abbrev pub ahead : ℕ → List TaskAct → List Ctx → ℕ → Ahead
ahead returned [] cs gone = record { acts = []; contexts = cs; gone = gone }
ahead returned (Call f ∷ rest) cs gone = record { acts = Call f ∷ rest; contexts = cs; gone = gone }
ahead returned (RetAct ∷ rest) cs gone = record { acts = RetAct ∷ rest; contexts = cs; gone = gone }
ahead returned (Raise c ∷ rest) cs gone = ahead returned rest (c ∷ cs) (suc gone)
ahead returned (Lower ∷ rest) cs gone = ahead returned rest (below_top cs) (suc gone)
ahead returned (After n ∷ rest) cs gone =
    if nat_le n returned then ahead returned rest cs (suc gone) else record { acts = After n ∷ rest; contexts = cs; gone = gone }

-- the call on the top of a stack
abbrev pub top_call : List Frame → Option CallNo
top_call [] = None
top_call (t ∷ below) = Some t.call

-- two callers are the same
abbrev pub same_top : Option CallNo → Option CallNo → Bool
same_top None None = true
same_top (Some a) (Some b) = same_call a b
same_top _ _ = false

-- what a user's act owes at a callback in this context
abbrev pub owed_by : Ctx → Option Act → Option Owed
owed_by x None = None
owed_by x (Some (CallIn f)) = Some (record { ctx = x; func = f.0 })
owed_by x (Some (IrqIn f)) = if nat_lt (rank x) (rank Irq) then Some (record { ctx = Irq; func = f.0 }) else None

-- a call in another phase
abbrev pub in_phase : Frame → Phase → Frame
in_phase t p = record t { phase = p }

-- the task with this call on the top of its stack
abbrev pub on_top : PlainTask → Frame → List Frame → PlainTask
on_top s t below = record s { stack = t ∷ below }

-- a scripted call: the next act that gives items is that call
abbrev pub after_scripted_enter : PlainTask → List TaskAct → List Ctx → ℕ → CallNo → Ctx → ℕ → Option PlainTask
after_scripted_enter s (Call g ∷ rest) cs gone call ctx f =
    if (g.0 == f) && same_ctx ctx (context cs)
    then Some (record {
      next = suc s.next;
      acts = rest;
      gone = suc gone;
      contexts = cs;
      stack = record { call = call; ctx = ctx; func = f; scripted = true; phase = Dispatch } ∷ s.stack;
    }) else None
after_scripted_enter s _ cs gone call ctx f = None

-- a scripted call, after the acts that give no items
abbrev pub after_enter_ahead : PlainTask → Ahead → CallNo → Ctx → ℕ → Option PlainTask
after_enter_ahead s a call ctx f = after_scripted_enter s a.acts a.contexts a.gone call ctx f

-- a call that a user's act owes
abbrev pub after_owed_enter : PlainTask → Frame → List Frame → ℕ → Option Owed → CallNo → Ctx → ℕ → Option PlainTask
after_owed_enter s t below u None call ctx f = None
after_owed_enter s t below u (Some o) call ctx f =
    if (o.func == f) && same_ctx o.ctx ctx
    then Some (record s {
      next = suc s.next;
      stack = record { call = call; ctx = ctx; func = f; scripted = false; phase = Dispatch } ∷ in_phase t (InBack u None false) ∷ below;
    }) else None

-- the call may be entered over this stack
abbrev pub after_enter : ℕ → PlainTask → List Frame → CallNo → Ctx → ℕ → Option PlainTask
after_enter returned s [] call ctx f = after_enter_ahead s (ahead returned s.acts s.contexts s.gone) call ctx f
after_enter returned s (t ∷ below) call ctx f = by_phase t.phase
  where
    by_phase : Phase → Option PlainTask
    by_phase Running = if t.scripted then after_enter_ahead s (ahead returned s.acts s.contexts s.gone) call ctx f else None
    by_phase (InBack u owed fresh) = after_owed_enter s t below u owed call ctx f
    by_phase _ = None

-- with the top call in a phase, the task goes on to another
abbrev pub after_back : Job → PlainTask → Frame → List Frame → ℕ → Phase → Option PlainTask
after_back job s t below u Dispatch = Some (on_top s (in_phase t (InBack u (owed_by t.ctx (spec_at job u).act) true)) below)
after_back job s t below u _ = None

-- a Miss comes directly after the Back of its user
abbrev pub after_miss : PlainTask → Frame → List Frame → ℕ → Phase → Option PlainTask
after_miss s t below u (InBack v owed true) = if u == v then Some (on_top s (in_phase t (InBack v owed false)) below) else None
after_miss s t below u _ = None

-- an entry callback ends only if its user's act owes nothing more
abbrev pub after_back_end : PlainTask → Frame → List Frame → ℕ → Phase → Option PlainTask
after_back_end s t below u (InBack v None fresh) = if u == v then Some (on_top s (in_phase t Dispatch) below) else None
after_back_end s t below u _ = None

-- a refusal comes in the dispatch and changes nothing
abbrev pub after_refusal : PlainTask → Phase → Option PlainTask
after_refusal s Dispatch = Some s
after_refusal s _ = None

-- the dispatch is over
abbrev pub after_body : PlainTask → Frame → List Frame → Phase → Option PlainTask
after_body s t below Dispatch = Some (on_top s (in_phase t Running) below)
after_body s t below _ = None

-- a scripted return: the next act that gives items is `ret`
abbrev pub after_scripted_leave : PlainTask → Frame → List Frame → List TaskAct → List Ctx → ℕ → Option PlainTask
after_scripted_leave s t below (RetAct ∷ rest) cs gone =
    Some (record { next = s.next; acts = rest; gone = suc gone; contexts = cs; stack = in_phase t Leaving ∷ below })
after_scripted_leave s t below _ cs gone = None

-- a scripted return, after the acts that give no items
abbrev pub after_leave_ahead : PlainTask → Frame → List Frame → Ahead → Option PlainTask
after_leave_ahead s t below a = after_scripted_leave s t below a.acts a.contexts a.gone

-- the body is over: by the script, or at once in a call that a user's act made
abbrev pub after_leave : ℕ → PlainTask → Frame → List Frame → Phase → Option PlainTask
after_leave returned s t below Running =
    if t.scripted then after_leave_ahead s t below (ahead returned s.acts s.contexts s.gone)
    else Some (on_top s (in_phase t Leaving) below)
after_leave returned s t below _ = None

-- an exit callback comes in the return
abbrev pub after_exit : PlainTask → Frame → List Frame → ℕ → Phase → Option PlainTask
after_exit s t below u Leaving = Some (on_top s (in_phase t (InExit u)) below)
after_exit s t below u _ = None

-- the exit callback that is open ends
abbrev pub after_exit_end : PlainTask → Frame → List Frame → ℕ → Phase → Option PlainTask
after_exit_end s t below u (InExit v) = if u == v then Some (on_top s (in_phase t Leaving) below) else None
after_exit_end s t below u _ = None

-- the return reaches the call below on the stack, which is the true caller
abbrev pub after_ret : PlainTask → List Frame → Option CallNo → Phase → Option PlainTask
after_ret s below to Leaving = if same_top to (top_call below) then Some (record s { stack = below }) else None
after_ret s below to _ = None

-- the task goes on by an item of its top call
abbrev pub on_call : List Frame → CallNo → (Frame → List Frame → Option PlainTask) → Option PlainTask
on_call [] call next = None
on_call (t ∷ below) call next = if same_call t.call call then next t below else None

-- the task after one more item, if a plain run may have it there
unfoldable pub after_item : Job → ℕ → PlainTask → Item → Option PlainTask
after_item job returned s (Enter call ctx f caller) =
    if (call.n == s.next) && same_top caller (top_call s.stack) then after_enter returned s s.stack call ctx f.0 else None
after_item job returned s (Back call u) = on_call s.stack call (λ t below. after_back job s t below u.0 t.phase)
after_item job returned s (BackEnd call u) = on_call s.stack call (λ t below. after_back_end s t below u.0 t.phase)
after_item job returned s (Refuse call u reason) = on_call s.stack call (λ t below. after_refusal s t.phase)
after_item job returned s (Miss call u) = on_call s.stack call (λ t below. after_miss s t below u.0 t.phase)
after_item job returned s (Body call g ran) = on_call s.stack call (λ t below. after_body s t below t.phase)
after_item job returned s (Leave call) = on_call s.stack call (λ t below. after_leave returned s t below t.phase)
after_item job returned s (Exit call u entry) = on_call s.stack call (λ t below. after_exit s t below u.0 t.phase)
after_item job returned s (ExitEnd call u) = on_call s.stack call (λ t below. after_exit_end s t below u.0 t.phase)
after_item job returned s (Ret call to) = on_call s.stack call (λ t below. after_ret s below to t.phase)
after_item job returned s _ = Some s

-- a task before its first act
abbrev pub at_start : Job → ℕ → PlainTask
at_start job t = record { next = 1; acts = (get_or job.tasks t no_task).acts; gone = 0; contexts = []; stack = [] }

-- the run goes on by one more item, if it came this far
abbrev pub after_next : Job → ℕ → Item → Option PlainTask → Option PlainTask
after_next job returned item None = None
after_next job returned item (Some s) = after_item job returned s item

-- where a task is on its plain run after these items, if that run has them
unfoldable pub plain : Job → ℕ → List Item → Option PlainTask
plain job t [] = Some (at_start job t)
plain job t (item ∷ past) = if is_of t item then after_next job (done past) item (plain job t past) else plain job t past
