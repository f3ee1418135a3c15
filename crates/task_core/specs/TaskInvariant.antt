-- What a task of the word machine keeps from step to step, by the values that its CPU takes alone. The code of a task rests on it.
use Rattle.std.specs.Prelude.{ℕ, suc, ◌-◌, ◌≡◌, ◌<◌, ◌≤◌, ◌⊎◌, Bool, true, false, not, ◌||◌, List, [], ◌∷◌, length, Some, if◌then◌else◌}
use Rattle.std.specs.List.{AllByRecursion as Each}
use Rattle.ft_base.specs.declared.context.Ctx.{Ctx}
use Rattle.ft_base.specs.declared.context.Ctx.TheVariants.{Normal, Irq}
use Rattle.ft_base.specs.declared.task.TaskAct.{TaskAct}
use Rattle.ft_base.specs.declared.task.TaskAct.TheVariants.{Call, Ret as RetAct, Raise, Lower, After}
use Rattle.ft_base.specs.Same.{rank, same_ctx, context}
use Rattle.ft_base.specs.Job.{Job, funcs}
use Rattle.ft_base.specs.Desk.{spec_at}
use Rattle.ft_base.specs.Kinds.{has_depth}
use Rattle.ft_base.specs.WellFormed.{IsScript}
use Rattle.ft_base.specs.Acts.{AreRaised}
use Rattle.ft_hist.specs.Plain.{owed_by}
use Rattle.ft_hist.specs.Dispatch.{is_full}
use Rattle.word_machine.specs.Task.{OpenCall, TaskState, Moment, Polling, First, InTramp, OwnSel, TestSel, TestFilter, TestNotrace, AtPids, AtDepth, Refusing, Calling, Missing, Acting, Ending, AtLink, Leaving, AtExit, Exiting, EndingExit, Returning, guards_under, level_of, is_quiet}
use Rattle.word_machine.specs.Tasks.{FirstAt, StandsIn, acts_by, is_returning, open_by}
use Rattle.word_machine.specs.Calls.{under_call}
use Rattle.task_core.specs.Framed.{AreFramed}

-- ## contexts and guards

-- an act's call is in the context of the callback, or in that of an interrupt above it
abbrev pub IsActContext : Ctx → Ctx → Type 0
IsActContext below c = (c ≡ below) ⊎ ((rank below < rank Irq) × (c ≡ Irq))

-- a context over those that were raised before, if it isn't that of the call below
abbrev pub raised_over : Ctx → List OpenCall → List Ctx → List Ctx
raised_over x [] rest = rest
raised_over x (b ∷ bb) rest = if same_ctx x b.ctx then rest else x ∷ rest

-- the contexts that the calls of acts have raised, the latest first
abbrev pub act_raised : List OpenCall → List Ctx
act_raised [] = []
act_raised (c ∷ below) = if c.scripted then [] else raised_over c.ctx below (act_raised below)

-- the context of the scripted call below the calls of acts
abbrev pub ground_context : List OpenCall → Ctx
ground_context [] = Normal
ground_context (c ∷ below) = if c.scripted then c.ctx else ground_context below

-- how many calls of acts are above the scripted ones
abbrev pub act_calls : List OpenCall → ℕ
act_calls [] = 0
act_calls (c ∷ below) = if c.scripted then 0 else suc (act_calls below)

-- the top call was made by an act
abbrev pub is_acted : List OpenCall → Bool
is_acted [] = false
is_acted (c ∷ below) = not c.scripted

-- a user has passed the test of the guard, and holds a level of it until its callback ends
abbrev pub holds_guard : Moment → Bool
holds_guard (AtDepth u reg) = true
holds_guard (Calling u reg) = true
holds_guard (Missing u) = true
holds_guard (Acting u o) = true
holds_guard (Ending u) = true
holds_guard _ = false

-- the context of each guard level that a task at a moment of its top call holds
abbrev pub guards_at : Moment → List OpenCall → List Ctx
guards_at m [] = []
guards_at m (c ∷ below) = if holds_guard m then c.ctx ∷ guards_under c.scripted below else guards_under c.scripted below

-- between the Enter and the Body of the top call
abbrev pub is_dispatching : Moment → Bool
is_dispatching Polling = false
is_dispatching First = false
is_dispatching Leaving = false
is_dispatching (AtExit m rest) = false
is_dispatching (Exiting m rest) = false
is_dispatching (EndingExit m rest) = false
is_dispatching Returning = false
is_dispatching _ = true

-- a call returns as soon as its dispatch is over
abbrev pub returns_at_once : Moment → Bool
returns_at_once Leaving = true
returns_at_once _ = false

-- ## a call

-- whom and what a moment names is there
abbrev pub NamesThere : Job → Moment → Type 0
NamesThere job (InTramp s) = s < job.tramps
NamesThere job (OwnSel u reg) = u < length job.users
NamesThere job (TestSel u) = u < length job.users
NamesThere job (TestFilter u copy reg) = (u < length job.users) × (copy < 2)
NamesThere job (TestNotrace u copy reg) = (u < length job.users) × (copy < 2)
NamesThere job (AtPids u reg) = u < length job.users
NamesThere job (AtDepth u reg) = u < length job.users
NamesThere job (Refusing u reg reason) = u < length job.users
NamesThere job (Calling u reg) = u < length job.users
NamesThere job (Missing u) = u < length job.users
NamesThere job (Acting u o) = (u < length job.users) × (o.func < funcs job)
NamesThere job (Ending u) = u < length job.users
NamesThere job (AtLink u) = u < length job.users
NamesThere job _ = Unit {0}

-- what the tests of a user have found: there is a frame for a graph or profile user that is called back, and an act is the user's
abbrev pub HasFound : Job → OpenCall → List OpenCall → Moment → Type 0
HasFound job c below (Calling u reg) = has_depth (spec_at job u).kind ≡ true → level_of below < job.frames
HasFound job c below (Acting u o) = owed_by c.ctx (spec_at job u).act ≡ Some o
HasFound job c below _ = Unit {0}

-- a call that an act made has a caller, and is in a context that the act may have
abbrev pub IsCalled : Bool → Ctx → List OpenCall → Type 0
IsCalled true x below = Unit {0}
IsCalled false x [] = ⊥
IsCalled false x (b ∷ bb) = IsActContext b.ctx x

-- An open call at a moment.
--   func, users, names   each number names something
--   scripted, acted      between two acts only calls of the script are open, and only a call that an act made returns at once
--   called               a call that an act made has a caller
--   free                 the callbacks below it have left it a level of its guard
--   found                what the tests have found
pub record CallInvariant (job : Job) (c : OpenCall) (below : List OpenCall) (m : Moment) : Type 0 where
  pub func : c.func < funcs job
  pub users : Each (λ o. o.user < length job.users) c.users
  pub names : NamesThere job m
  pub scripted : is_quiet m ≡ true → c.scripted ≡ true
  pub acted : returns_at_once m ≡ true → c.scripted ≡ false
  pub called : IsCalled c.scripted c.ctx below
  pub free : holds_guard m ≡ true → is_full job (guards_under c.scripted below) c.ctx ≡ false
  pub found : HasFound job c below m

-- all open calls
abbrev pub CallsInvariant : Job → Moment → List OpenCall → Type 0
CallsInvariant job m [] = Unit {0}
CallsInvariant job m (c ∷ below) = CallInvariant job c below m × CallsInvariant job (under_call c below) below

-- ## a task

-- A task.
--   script, raised   its acts to come can be done: each return has its call, each interrupt that comes is above the present context, and
--                    one that goes has come
--   stands, first    in a call it has an act and the call; after its poll it has an act to do
--   ground           while the top call is in its dispatch, or an act made it, the task is in the context of the scripted call
--   framed           only calls with a frame owe exits, and there are no more than frames
--   calls            its open calls
pub record TaskInvariant (job : Job) (x : TaskState) : Type 0 where
  pub script : IsScript job (open_by (is_returning x.moment) x.stack) (acts_by (is_quiet x.moment) x.acts)
  pub raised : AreRaised x.contexts (acts_by (is_quiet x.moment) x.acts)
  pub stands : StandsIn (is_quiet x.moment) x.acts x.stack
  pub first : FirstAt x.moment x.acts
  pub ground : (is_dispatching x.moment || is_acted x.stack) ≡ true → ground_context x.stack ≡ context x.contexts
  pub framed : AreFramed job.frames x.stack
  pub calls : CallsInvariant job x.moment x.stack

-- ## room for calls

-- no more scripted calls than this limit are open from now on, if so many are now
abbrev pub StaysWithin : ℕ → ℕ → List TaskAct → Type 0
StaysWithin limit n [] = n ≤ limit
StaysWithin limit n (Call f ∷ rest) = (n ≤ limit) × StaysWithin limit (suc n) rest
StaysWithin limit n (RetAct ∷ rest) = (n ≤ limit) × StaysWithin limit (n - 1) rest
StaysWithin limit n (Raise c ∷ rest) = StaysWithin limit n rest
StaysWithin limit n (Lower ∷ rest) = StaysWithin limit n rest
StaysWithin limit n (After m ∷ rest) = StaysWithin limit n rest

-- a task has room for the scripted calls of its acts to come
abbrev pub HasCallRoom : ℕ → TaskState → Type 0
HasCallRoom limit x = StaysWithin limit (open_by (is_returning x.moment) x.stack) (acts_by (is_quiet x.moment) x.acts)
