-- A task of code that is a task of a job: its stacks, its walks, its guards and its room fit together.
use Rattle.std.specs.Prelude.{ℕ, ◌-◌, ◌*◌, ◌≡◌, ◌<◌, ◌≤◌, ◌++◌, List, [], ◌∷◌, get_or, length}
use Rattle.std.specs.List.{AllByRecursion as Each}
use Rattle.ft_base.specs.declared.context.Ctx.{Ctx}
use Rattle.ft_base.specs.declared.item.Ran.{Ran}
use Rattle.ft_base.specs.declared.item.Ran.TheVariants.{List as ByList}
use Rattle.ft_base.specs.declared.limits.TheConstants.{USERS}
use Rattle.ft_base.specs.declared.number.TaskNo.{TaskNo}
use Rattle.ft_base.specs.Job.{Job, no_task}
use Rattle.ft_base.specs.Versions.{levels}
use Rattle.ft_hist.specs.Frames.{FrameUser}
use Rattle.ft_hist.specs.Dispatch.{held_levels}
use Rattle.hash_pages.specs.declared.reader.ReadPhase.{ReadPhase}
use Rattle.hash_pages.specs.declared.reader.ReadPhase.TheVariants.{Ended as ReadEnded}
use Rattle.hash_pages.specs.Reads.{Read}
use Rattle.ops_list.specs.declared.walker.WalkPhase.{WalkPhase}
use Rattle.ops_list.specs.declared.walker.WalkPhase.TheVariants.{Starting, At, Ended as WalkEnded}
use Rattle.recursion_guard.specs.Guards.{held_in}
use Rattle.return_stack.specs.Calls.{StackedCall, top_users}
use Rattle.word_map.specs.declared.shape.Shape.{Shape}
use Rattle.word_map.specs.Shapes.{shape_of}
use Rattle.word_machine.specs.Calls.{under_call}
use Rattle.word_machine.specs.Task.{Moment, Fetch, GotHead, GotBreak, OwnSel, AtFirst, TestSel, TestFilter, TestNotrace, AtPids, AtDepth, Refusing, Calling, Missing, Acting, Ending, AtLink}
use Rattle.task_core.specs.declared.moment.Moment.{Moment as CodeMoment}
use Rattle.task_core.specs.declared.moment.Moment.TheVariants.{Load, Mark}
use Rattle.task_core.specs.declared.moment.ToLoad.{ToLoad}
use Rattle.task_core.specs.declared.moment.ToLoad.TheVariants.{Walking, Reading, AtExit}
use Rattle.task_core.specs.declared.moment.ToMark.{ToMark}
use Rattle.task_core.specs.declared.moment.ToMark.TheVariants.{Exiting, EndingExit}
use Rattle.task_core.specs.declared.open_call.OpenCall.{OpenCall as CodeCall}
use Rattle.task_core.specs.declared.task.Task.{Task}
use Rattle.task_core.specs.States.{joined, stack_in, stack_of, state_of, moment_of, users_in}
use Rattle.task_core.specs.TaskInvariant.{HasCallRoom, TaskInvariant, act_raised, guards_at}
use Rattle.task_core.specs.TaskOps.{top}

-- ## walks

-- at this user
abbrev pub at_user : ℕ → WalkPhase
at_user u = At (record { 0 = u })

-- The walk of a call that is at a moment: before the list it has not begun. At a user of the list it stands there, also while the user's
-- act makes a call
abbrev pub WalksAt : Ran → Moment → WalkPhase → Type 0
WalksAt ran Fetch phase = phase ≡ Starting
WalksAt ran (GotHead byte) phase = phase ≡ Starting
WalksAt ran GotBreak phase = phase ≡ Starting
WalksAt ran AtFirst phase = (phase ≡ Starting) × (ran ≡ ByList)
WalksAt ran (TestSel u) phase = (phase ≡ at_user u) × (ran ≡ ByList)
WalksAt ran (TestFilter u copy reg) phase = (phase ≡ at_user u) × (ran ≡ ByList)
WalksAt ran (TestNotrace u copy reg) phase = (phase ≡ at_user u) × (ran ≡ ByList)
WalksAt ran (AtLink u) phase = (phase ≡ at_user u) × (ran ≡ ByList)
WalksAt ran (AtPids u reg) phase = ran ≡ ByList → phase ≡ at_user u
WalksAt ran (AtDepth u reg) phase = ran ≡ ByList → phase ≡ at_user u
WalksAt ran (Refusing u reg reason) phase = ran ≡ ByList → phase ≡ at_user u
WalksAt ran (Calling u reg) phase = ran ≡ ByList → phase ≡ at_user u
WalksAt ran (Missing u) phase = ran ≡ ByList → phase ≡ at_user u
WalksAt ran (Acting u o) phase = ran ≡ ByList → phase ≡ at_user u
WalksAt ran (Ending u) phase = ran ≡ ByList → phase ≡ at_user u
WalksAt ran (OwnSel u reg) phase = ran ≡ ByList → phase ≡ at_user u
WalksAt ran _ phase = Unit {0}

-- a walk that has a load to come
abbrev pub IsWalking : WalkPhase → Type 0
IsWalking WalkEnded = ⊥
IsWalking _ = Unit {0}

-- a read that has a load to come
abbrev pub IsReading : ReadPhase → Type 0
IsReading (ReadEnded verdict) = ⊥
IsReading _ = Unit {0}

-- a read of the user at which the call's walk stands
pub record IsReadOf (shape : Shape) (o : CodeCall) (r : Read) : Type 0 where
  pub shape' : r.shape ≡ shape
  pub func : r.func ≡ o.func.0
  pub user : o.walk.phase ≡ at_user r.user
  pub open' : IsReading r.phase

-- ## stacks

-- What the task and its stacks know of an open call at a moment.
--   call, task   they name the same call, and it is the task's
--   shape, walk  its walk is over the job's words, and stands where the call does
pub record StackedCallInvariant (shape : Shape) (number : TaskNo) (m : Moment) (o : CodeCall) (s : StackedCall) : Type 0 where
  pub call : s.call ≡ o.call
  pub task : o.call.task ≡ number
  pub shape' : o.walk.shape ≡ shape
  pub walk : WalksAt o.ran m o.walk.phase

-- all open calls
abbrev pub StackInvariant : Shape → TaskNo → Moment → List CodeCall → List StackedCall → Type 0
StackInvariant shape number m [] [] = Unit {0}
StackInvariant shape number m [] (s ∷ ss) = ⊥
StackInvariant shape number m (o ∷ os) [] = ⊥
StackInvariant shape number m (o ∷ os) (s ∷ ss) = StackedCallInvariant shape number m o s × StackInvariant shape number (under_call (joined o s) (stack_in os ss)) os ss

-- no call owes more exits than a frame has room for
abbrev pub AreFew : List StackedCall → Type 0
AreFew ss = Each (λ s. length (users_in s.users) ≤ USERS) ss

-- ## moments

-- what a moment names is there: a load of a walk or a read is to come, and an exit has its user
abbrev pub HasLoad : Shape → CodeCall → List FrameUser → ToLoad → Type 0
HasLoad shape o users Walking = IsWalking o.walk.phase × (o.ran ≡ ByList)
HasLoad shape o users (Reading r) = IsReadOf shape o r
HasLoad shape o users (AtExit i) = i < length users
HasLoad shape o users _ = Unit {0}

-- an exit that is to be marked has its user
abbrev pub HasMark : List FrameUser → ToMark → Type 0
HasMark users (Exiting i) = i < length users
HasMark users (EndingExit i) = i < length users
HasMark users _ = Unit {0}

-- what a load or a mark of a moment names is there
abbrev pub HasMoment : Shape → CodeCall → List FrameUser → CodeMoment → Type 0
HasMoment shape o users (Load load) = HasLoad shape o users load
HasMoment shape o users (Mark mark) = HasMark users mark
HasMoment shape o users _ = Unit {0}

-- ## the task

-- A task of a job.
--   number, acts    it is one of the job's tasks, with that task's acts
--   frames, limits  its stacks have room for as many frames as the job says, and for the same calls
--   nested, room    that is room for the scripted calls of its acts, and for the calls of users' acts above them: as many as the guards
--                   of two contexts have levels
--   tied, few       its open calls are those of its stacks, and none owes more exits than a frame has room for
--   moment          it stands where something is to come
--   levels, held    each guard has as many levels as the job says, and those that are held are those of its callbacks
--   raised          the calls of acts are in contexts above those of its script
--   steady          it keeps what the machine's task keeps
pub record IsTaskOf (job : Job) (t : Task) : Type 0 where
  pub number : t.number.0 < length job.tasks
  pub acts : t.acts.all ≡ (get_or job.tasks t.number.0 no_task).acts
  pub gone : t.acts.gone ≤ length t.acts.all
  pub frames : t.stacks.frame_limit ≡ job.frames
  pub limits : t.stacks.call_limit ≡ t.opens.limit
  pub nested : 2 * levels job ≤ t.opens.limit
  pub room : HasCallRoom (t.opens.limit - 2 * levels job) (state_of t)
  pub tied : StackInvariant (shape_of job) t.number (moment_of t) t.opens.calls t.stacks.calls
  pub few : AreFew t.stacks.calls
  pub moment : HasMoment (shape_of job) (top t) (users_in (top_users t.stacks.calls)) t.moment
  pub levels' : t.guards.levels ≡ levels job
  pub held : (k : Ctx) → held_in t.guards.held k ≡ held_levels (guards_at (moment_of t) (stack_of t)) k
  pub raised : t.guards.raised ≡ act_raised (stack_of t) ++ (state_of t).contexts
  pub steady : TaskInvariant job (state_of t)
