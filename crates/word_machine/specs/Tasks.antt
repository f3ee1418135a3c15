-- The rule of a task: its stack is that of its plain run, its guards and its frames are those of the history, and its quiet word tells
-- where it is.
use Rattle.std.specs.Prelude.{ℕ, suc, ◌≡◌, ◌≤◌, ◌⊎◌, Bool, true, false, ◌&&◌, ◌==◌, List, [], ◌∷◌, Option, Some, None, IsSome, if◌then◌else◌, ◌+◌, length, get_or}
use Rattle.std.specs.List.{filter}
use Rattle.ft_base.specs.declared.item.Item.{Item}
use Rattle.ft_base.specs.declared.task.TaskAct.{TaskAct}
use Rattle.ft_base.specs.declared.task.TaskAct.TheVariants.{Call, Ret as RetAct, After}
use Rattle.ft_base.specs.Job.{Job, no_task}
use Rattle.ft_base.specs.WellFormed.{IsScript}
use Rattle.ft_base.specs.Desk.{spec_at}
use Rattle.ft_base.specs.Tasks.{has_acts}
use Rattle.ft_hist.specs.Past.{done, Callback, callbacks, miss_due}
use Rattle.ft_hist.specs.Plain.{plain, PlainTask, Frame, Phase, Dispatch, InBack, Running, Leaving as InReturn, InExit, owed_by, ahead}
use Rattle.word_map.specs.Contents.{low, high, greatest_half}
use Rattle.word_machine.specs.Commands.{effect}
use Rattle.word_machine.specs.Task.{OpenCall, TaskState, Moment, Polling, First, Missing, Acting, Ending, Leaving, AtExit, Exiting, EndingExit, Returning, is_quiet, level_of, rest_acts}
use Rattle.word_machine.specs.Progress.{quiet_reached}
use Rattle.word_machine.specs.Verdicts.{Here}
use Rattle.word_machine.specs.Calls.{Calls, under_call}

-- ## the plain run of a task

-- the phase on the plain run of a call that is at a moment; `fresh` says whether the Back is the task's latest item
abbrev pub plain_phase : Job → Bool → OpenCall → Moment → Phase
plain_phase job fresh c Polling = Running
plain_phase job fresh c First = Running
plain_phase job fresh c (Missing u) = InBack u (owed_by c.ctx (spec_at job u).act) true
plain_phase job fresh c (Acting u o) = InBack u (Some o) fresh
plain_phase job fresh c (Ending u) = InBack u None fresh
plain_phase job fresh c Leaving = Running
plain_phase job fresh c (AtExit m rest) = InReturn
plain_phase job fresh c (Exiting m rest) = InReturn
plain_phase job fresh c (EndingExit m rest) = InExit m.user
plain_phase job fresh c Returning = InReturn
plain_phase job fresh c _ = Dispatch

-- an open call as the plain run has it
abbrev pub frame_of : OpenCall → Phase → Frame
frame_of c phase = record { call = c.call; ctx = c.ctx; func = c.func; scripted = c.scripted; phase = phase }

-- all open calls as the plain run has them
abbrev pub plain_stack : Job → Bool → Moment → List OpenCall → List Frame
plain_stack job fresh m [] = []
plain_stack job fresh m (c ∷ below) = frame_of c (plain_phase job fresh c m) ∷ plain_stack job false (under_call c below) below

-- on the plain run the present act is done as soon as its call is entered or left
abbrev pub acts_by : Bool → List TaskAct → List TaskAct
acts_by quiet acts = if quiet then acts else rest_acts acts

-- how many acts are then finished
abbrev pub gone_by : Bool → ℕ → ℕ
gone_by quiet gone = if quiet then gone else suc gone

-- The task is on its plain run.
--   fresh, at, is   its items so far are a beginning of its plain run
--   next            the next call has the number that comes next
--   stack           the open calls are those of the plain run. Otherwise a return would not reach its true caller
--   ahead           the acts to come are those of the plain run, up to acts without items
--   counted         within a call the plain run counts the act as finished. Otherwise a wait of control could be met too early
pub record RunsAt (job : Job) (past : List Item) (t : ℕ) (x : TaskState) : Type 0 where
  pub fresh : Bool
  pub at : PlainTask
  pub is : plain job t past ≡ Some at
  pub next : at.next ≡ x.next
  pub stack : at.stack ≡ plain_stack job fresh x.moment x.stack
  pub ahead : ahead (done past) at.acts at.contexts at.gone
      ≡ ahead (done past) (acts_by (is_quiet x.moment) x.acts) x.contexts (gone_by (is_quiet x.moment) x.gone)
  pub counted : is_quiet x.moment ≡ false → at.gone ≡ suc x.gone

-- ## a task's callbacks, misses and script

-- one more callback is open
abbrev pub with_callback : OpenCall → ℕ → List Callback → List Callback
with_callback c u rest = record { call = c.call; user = u; ctx = Some c.ctx } ∷ rest

-- the callbacks that a task at this moment of its top call has open
abbrev pub callback_at : OpenCall → Moment → List Callback → List Callback
callback_at c (Missing u) rest = with_callback c u rest
callback_at c (Acting u o) rest = with_callback c u rest
callback_at c (Ending u) rest = with_callback c u rest
callback_at c (EndingExit m rest') rest = with_callback c m.user rest
callback_at c _ rest = rest

-- all callbacks that the task has open, the latest first
abbrev pub callbacks_at : Moment → List OpenCall → List Callback
callbacks_at m [] = []
callbacks_at m (c ∷ below) = callback_at c m (callbacks_at (under_call c below) below)

-- the Miss that is the task's next item
abbrev pub miss_at : Moment → List OpenCall → Option Callback
miss_at (Missing u) (c ∷ below) = Some (record { call = c.call; user = u; ctx = None })
miss_at _ stack = None

-- how many of these calls are scripted
abbrev pub scripted_of : List OpenCall → ℕ
scripted_of [] = 0
scripted_of (c ∷ below) = if c.scripted then suc (scripted_of below) else scripted_of below

-- the top call is on its return
abbrev pub is_returning : Moment → Bool
is_returning (AtExit m rest) = true
is_returning (Exiting m rest) = true
is_returning (EndingExit m rest) = true
is_returning Returning = true
is_returning _ = false

-- how many scripted calls will be open after the present act
abbrev pub open_by : Bool → List OpenCall → ℕ
open_by returning [] = 0
open_by returning (c ∷ below) = if returning && c.scripted then scripted_of below else scripted_of (c ∷ below)

-- a task within a call has an act and a call
abbrev pub StandsIn : Bool → List TaskAct → List OpenCall → Type 0
StandsIn true acts stack = Unit {0}
StandsIn false acts stack = (has_acts acts ≡ true) × IsSome (first_call stack)
  where
    first_call : List OpenCall → Option OpenCall
    first_call [] = None
    first_call (c ∷ below) = Some c

-- a call that a user's act made has a caller
abbrev pub HasCaller : Bool → List OpenCall → Type 0
HasCaller true below = Unit {0}
HasCaller false [] = ⊥
HasCaller false (c ∷ below) = Unit {0}

-- each such call has one
abbrev pub Grounded : List OpenCall → Type 0
Grounded [] = Unit {0}
Grounded (c ∷ below) = HasCaller c.scripted below × Grounded below

-- ## a task

-- what a poll has told: a request that was stored, or the ending value once no act is left. A request that nobody stored would let control's
-- next wait pass at once
abbrev pub HasTold : ℕ → Bool → ℕ → ℕ → Type 0
HasTold request more ending v = (v ≤ request) ⊎ ((more ≡ false) × (v ≡ ending))

-- the present act is a call, a return or a wait: any other is done with its poll
abbrev pub IsToDo : List TaskAct → Type 0
IsToDo (Call f ∷ rest) = Unit {0}
IsToDo (RetAct ∷ rest) = Unit {0}
IsToDo (After n ∷ rest) = Unit {0}
IsToDo _ = ⊥

-- after a poll such an act follows
abbrev pub FirstAt : Moment → List TaskAct → Type 0
FirstAt First acts = IsToDo acts
FirstAt _ acts = Unit {0}

-- A task.
--   word'      it knows its quiet word, so a poll stores only what changes
--   gone       the word tells of no act that is not finished. Otherwise a wait of control would be met too early
--   total      it has finished the acts that do not remain
--   quiet      the word tells of no quiet point after a request that is not stored
--   first      after its poll it has an act to do
--   reached    what control has seen of it is so. Otherwise control would go on while the task still uses what it loaded
--   stands, grounded   a task within a call has one, and a call that an act made has a caller: somewhere to return to
--   run        it is on its plain run
--   opens      the callbacks that are open are those of its stack, so as many levels of a guard are held as such callbacks are open
--   miss       a Miss follows its Back
--   few        no more calls hold a frame than there are frames
--   script     each return in its script has its call
--   calls      what its open calls know
pub record TaskRule (job : Job) (h : Here) (past : List Item) (ack word t : ℕ) (x : TaskState) : Type 0 where
  pub word' : x.word ≡ word
  pub gone : high word ≤ x.gone
  pub total : x.gone + length x.acts ≡ length (get_or job.tasks t no_task).acts
  pub quiet : HasTold h.request (has_acts x.acts) greatest_half (low word)
  pub first : FirstAt x.moment x.acts
  pub reached : quiet_reached (effect job h.d) h.p h.request t ≤ low word
  pub stands : StandsIn (is_quiet x.moment) x.acts x.stack
  pub grounded : Grounded x.stack
  pub run : RunsAt job past t x
  pub opens : filter (λ b. b.call.task.0 == t) (callbacks past) ≡ callbacks_at x.moment x.stack
  pub miss : miss_due job t past ≡ miss_at x.moment x.stack
  pub few : level_of x.stack ≤ job.frames
  pub script : IsScript job (open_by (is_returning x.moment) x.stack) (acts_by (is_quiet x.moment) x.acts)
  pub calls : Calls job h past ack (low word) t x.moment x.stack
