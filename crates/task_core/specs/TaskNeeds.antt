-- What a task's operation asks: that what it is on is there, and that the value fits it.
use Rattle.std.specs.Prelude.{ℕ, suc, ◌+◌, ◌≡◌, ◌<◌, ◌≤◌, ◌^◌, true, false, drop, length, Option, Some, IsSome, IfSome, IsSomeAnd}
use Rattle.ft_base.specs.declared.context.Ctx.{Ctx}
use Rattle.ft_base.specs.declared.limits.TheConstants.{USERS, FUNCS, TASKS, TRAMPS}
use Rattle.ft_base.specs.declared.task.TaskAct.{TaskAct}
use Rattle.ft_base.specs.declared.task.TaskAct.TheVariants.{Call, Ret as RetAct, Raise, Lower}
use Rattle.ft_base.specs.declared.user.Kind.{Kind}
use Rattle.ft_base.specs.Kinds.{has_depth}
use Rattle.ft_base.specs.Same.{rank, same_ctx, context}
use Rattle.ops_list.specs.Walks.{walk_at}
use Rattle.recursion_guard.specs.Guards.{IsHeld}
use Rattle.return_stack.specs.Calls.{CallStack, frames_in, top_users}
use Rattle.word_map.specs.declared.shape.Shape.{Shape}
use Rattle.word_map.specs.Contents.{tramp_user}
use Rattle.task_core.specs.declared.moment.Moment.{Moment}
use Rattle.task_core.specs.declared.moment.Moment.TheVariants.{Polling, First, Load, Mark}
use Rattle.task_core.specs.declared.moment.ToLoad.{ToLoad}
use Rattle.task_core.specs.declared.moment.ToLoad.TheVariants.{Fetch, GotHead, GotBreak, InTramp, OwnSel, Walking, Reading, AtPids, AtDepth, AtExit}
use Rattle.task_core.specs.declared.moment.ToMark.{ToMark}
use Rattle.task_core.specs.declared.moment.ToMark.TheVariants.{Calling, Missing, Acting, Ending, Closing, Exiting, EndingExit, Returning}
use Rattle.task_core.specs.declared.task.Task.{Task}
use Rattle.task_core.specs.Leads.{IsFetched}
use Rattle.task_core.specs.Setups.{PlainSetup, declared_in}
use Rattle.task_core.specs.Opens.{top_of}
use Rattle.task_core.specs.TaskOps.{owed, present, top}

-- a call is open, on each of the stacks
pub record IsInCall (t : Task) : Type 0 where
  pub opened : 0 < length t.opens.calls
  pub stacked : 0 < length t.stacks.calls

-- ## words that are there

-- the word of a load is there
abbrev pub IsLoadThere : Shape → Task → ToLoad → Type 0
IsLoadThere shape t Fetch = (top t).func.0 < shape.funcs
IsLoadThere shape t (GotHead byte) = (top t).func.0 < shape.funcs
IsLoadThere shape t GotBreak = (top t).func.0 < shape.funcs
IsLoadThere shape t (InTramp s) = s < shape.tramps
IsLoadThere shape t (OwnSel u reg) = u.0 < shape.users
IsLoadThere shape t Walking = (top t).walk.shape ≡ shape
IsLoadThere shape t (Reading r) = r.shape ≡ shape
IsLoadThere shape t (AtPids u reg) = Unit {0}
IsLoadThere shape t (AtDepth u reg) = Unit {0}
IsLoadThere shape t (AtExit i) = IsSomeAnd (owed t i) (λ m. m.user.0 < shape.users)

-- the word of the operation at a moment
abbrev pub IsThereAt : Shape → Task → Moment → Type 0
IsThereAt shape t (Load load) = IsInCall t × IsLoadThere shape t load
IsThereAt shape t _ = Unit {0}

-- the word of a task's next operation, and the task's own
pub record IsTaskThere (shape : Shape) (t : Task) : Type 0 where
  pub number : t.number.0 < shape.tasks
  pub word : IsThereAt shape t t.moment

-- ## room

-- one more call can be entered
pub record HasCallRoom (t : Task) : Type 0 where
  pub opened : length t.opens.calls < t.opens.limit
  pub stacked : length t.stacks.calls < t.stacks.call_limit
  pub next : suc t.next < 2 ^ 32

-- the present act can be finished
abbrev pub HasAct : Task → Type 0
HasAct t = t.acts.gone < length t.acts.all

-- a callback of a user of this kind finds room in the frame of its call, and a frame if it is a graph or profile user
pub record HasFrameRoom (kind : Kind) (s : CallStack) : Type 0 where
  pub users : IfSome (top_users s.calls) (λ users. length users < USERS)
  pub frame : has_depth kind ≡ true → frames_in (drop 1 s.calls) < s.frame_limit

-- ## acts

-- an act without operations can be done: an interrupt that comes is above the present context, and one that goes has come
abbrev pub CanBegin : Task → Option TaskAct → Type 0
CanBegin t (Some (Raise x)) = rank (context t.guards.raised) < rank x
CanBegin t (Some Lower) = 0 < length t.guards.raised
CanBegin t _ = Unit {0}

-- ## values

-- there is such a user
abbrev pub IsUser : PlainSetup → ℕ → Type 0
IsUser s u = u < length s.users

-- the first operation of an act
abbrev pub FitsFirst : Task → Option TaskAct → Type 0
FitsFirst t (Some (Call f)) = HasCallRoom t
FitsFirst t (Some RetAct) = IsInCall t
FitsFirst t _ = Unit {0}

-- the walk has loaded the name of a user that there is
pub record FitsWalk (s : PlainSetup) (t : Task) (v : ℕ) : Type 0 where
  pub shape : (top t).walk.shape ≡ s.shape
  pub func : (top t).func.0 < s.shape.funcs
  pub name : v ≤ s.shape.users

-- a load gave a value
abbrev pub FitsLoad : PlainSetup → Task → ToLoad → ℕ → Type 0
FitsLoad s t Fetch v = v < 256
FitsLoad s t (GotHead byte) v = ((top t).func.0 < FUNCS) × IsFetched (top t).func.0 byte v
FitsLoad s t GotBreak v = v < 2 + TRAMPS
FitsLoad s t (InTramp slot) v = IsUser s (tramp_user v)
FitsLoad s t (OwnSel u reg) v = IsUser s u.0
FitsLoad s t Walking v = FitsWalk s t v
FitsLoad s t (Reading r) v = IfSome (walk_at (top t).walk.phase) (λ u. IsUser s u.0)
FitsLoad s t (AtPids u reg) v = IsUser s u.0 × (t.number.0 < TASKS)
FitsLoad s t (AtDepth u reg) v = IsHeld t.guards
FitsLoad s t (AtExit i) v = IsSome (owed t i) × (i < USERS)

-- the act's call comes above the present context, if it is in another one than the callback
abbrev pub CanRaise : Task → Ctx → Type 0
CanRaise t x = same_ctx x (top t).ctx ≡ false → rank (context t.guards.raised) < rank x

-- the call that returns has a caller, if an act made it, and its context was raised, if it isn't that of the caller
pub record CanReturn (t : Task) : Type 0 where
  pub act : (top t).scripted ≡ true → HasAct t
  pub caller : (top t).scripted ≡ false → 1 < length t.opens.calls
  pub lower : (top t).scripted ≡ false → same_ctx (top t).ctx (top_of (drop 1 t.opens.calls)).ctx ≡ false → 0 < length t.guards.raised

-- a mark is made
abbrev pub FitsMark : PlainSetup → Task → ToMark → Type 0
FitsMark s t (Calling u reg) = IsUser s u.0 × HasFrameRoom (declared_in s u.0).kind t.stacks
FitsMark s t (Missing u) = IsUser s u.0
FitsMark s t (Acting u f x) = HasCallRoom t × CanRaise t x
FitsMark s t (Ending u) = IsHeld t.guards
FitsMark s t Closing = (top t).scripted ≡ true → HasAct t
FitsMark s t (Exiting i) = IsSome (owed t i)
FitsMark s t (EndingExit i) = IsSome (owed t i) × (i < USERS)
FitsMark s t Returning = CanReturn t
FitsMark s t _ = Unit {0}

-- the operation at a moment gave a value
abbrev pub FitsAt : PlainSetup → Task → Moment → ℕ → Type 0
FitsAt s t Polling v = Unit {0}
FitsAt s t First v = FitsFirst t (present t)
FitsAt s t (Load load) v = IsInCall t × FitsLoad s t load v
FitsAt s t (Mark mark) v = IsInCall t × FitsMark s t mark

-- a task's next operation gave a value that fits it
abbrev pub TaskFits : PlainSetup → Task → ℕ → Type 0
TaskFits s t v = FitsAt s t t.moment v
