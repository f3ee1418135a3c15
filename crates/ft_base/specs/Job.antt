-- A job as plain data: what a script declares, as lists, sets and numbers.
use Rattle.std.specs.Prelude.{ℕ, zero, suc, Bool, true, List, [], ◌∷◌, length, Option, Some, None, slice_get}
use Rattle.ft_base.specs.Marks.{Marks}
use Rattle.ft_base.specs.declared.limits.TheConstants.{USUAL_RING}
use Rattle.ft_base.specs.declared.number.FuncNo.{FuncNo}
use Rattle.ft_base.specs.declared.user.Kind.{Kind}
use Rattle.ft_base.specs.declared.user.Act.{Act}
use Rattle.ft_base.specs.declared.task.TaskAct.{TaskAct}
use Rattle.ft_base.specs.declared.item.Answer.{Answer}
use Rattle.ft_base.specs.declared.turn.Turn.{Turn}

-- a traceable function: its name, and its module if it has one
pub record Func : Type 0 where
  pub name : List ℕ
  pub owner : Option (List ℕ)

-- a user as it was declared: its name, its kind, its flags (`ftrace-uses.rst`, The ftrace FLAGS), the function that
-- it puts in the place of those that it traces, and what it does at each entry callback
pub record Spec : Type 0 where
  pub name : List ℕ
  pub kind : Kind
  pub regs : Bool
  pub ipmodify : Option FuncNo
  pub pid : Bool
  pub act : Option Act

-- a write to one of a user's two sets: it starts from the set as it is (append) or from the empty set, and adds the
-- selected functions or takes them away (remove); or it clears the set
pub record Edit : Type 0 where
  pub append : Bool
  pub remove : Bool
  pub clear : Bool
  pub set : Marks

-- what control can be told to do; a task set has a mark for each task of the job
pub data Command : Type 0 where
  Register : (user : ℕ) → Command
  Unregister : (user : ℕ) → Command
  Filter : (user : ℕ) → (edit : Edit) → Command
  Notrace : (user : ℕ) → (edit : Edit) → Command
  Pid : (pids : Marks) → Command
  NoPid : (nopids : Marks) → Command
  Enable : (user : ℕ) → Command
  Disable : (user : ℕ) → Command
  MaxDepth : (depth : ℕ) → Command

-- the user that a command names, if it names one
abbrev pub user_of : Command → Option ℕ
user_of (Register u) = Some u
user_of (Unregister u) = Some u
user_of (Filter u e) = Some u
user_of (Notrace u e) = Some u
user_of (Pid pids) = None
user_of (NoPid nopids) = None
user_of (Enable u) = Some u
user_of (Disable u) = Some u
user_of (MaxDepth depth) = None

-- the set of functions that a command brings, if it is an edit
abbrev pub set_of : Command → Option Marks
set_of (Filter u e) = Some e.set
set_of (Notrace u e) = Some e.set
set_of _ = None

-- the graph depth that a command sets, if it sets one
abbrev pub depth_of : Command → Option ℕ
depth_of (MaxDepth depth) = Some depth
depth_of _ = None

-- the user that a command takes off if it is accepted: none of its callbacks is open when the command has returned
abbrev pub takes_off : Command → Option ℕ
takes_off (Unregister u) = Some u
takes_off (Disable u) = Some u
takes_off _ = None

-- one line of control: a command, or a wait until a task has finished this many acts
pub data Ctl : Type 0 where
  Run : (command : Command) → Ctl
  Until : (task : ℕ) → (acts : ℕ) → Ctl

-- a task: its pid, its CPU and its acts
pub record Task : Type 0 where
  pub pid : ℕ
  pub cpu : ℕ
  pub acts : List TaskAct

-- a line that loads or unloads a module: whether it loads, the module, its answer, and the numbers of the first and the last
-- command that carry it out
pub record ModuleRow : Type 0 where
  pub load : Bool
  pub owner : ℕ
  pub answer : Answer
  pub first : ℕ
  pub last : ℕ

-- Where control's lines come from, if a script says more of it: the lane of each command, or nothing if there are no lanes; the
-- modules that aren't loaded at first; and the lines that load and unload modules
pub record LinePlan : Type 0 where
  pub lanes : List ℕ
  pub absent : List ℕ
  pub modules : List ModuleRow

-- no lanes and no modules that change
abbrev pub usual_lines : LinePlan
usual_lines = record { lanes = []; absent = []; modules = [] }

-- a trigger: whether it switches tracing on, how often it may fire if that is limited, and at the calls of which functions
-- (ftrace.rst, Filter commands)
pub record Trigger : Type 0 where
  pub on : Bool
  pub limit : Option ℕ
  pub set : Marks

-- what is kept of a trace: how many entries each CPU's ring holds, whether tracing is on at first, and what switches it
pub record RingPlan : Type 0 where
  pub ring : ℕ
  pub tracing : Bool
  pub triggers : List Trigger

-- what a script without such lines has
abbrev pub usual_rings : RingPlan
usual_rings = record { ring = USUAL_RING; tracing = true; triggers = [] }

-- what stands for the number of a function that a job doesn't have
abbrev pub no_func : Func
no_func = record { name = []; owner = None }

-- what stands for the number of a task that a job doesn't have
abbrev pub no_task : Task
no_task = record { pid = 0; cpu = 0; acts = [] }

-- a job: the version of the language that it is written in, functions, users, the frames of each task's shadow stack, trampoline
-- slots, the quantum of each CPU, tasks, control's lines, the schedule, where the lines come from, and what is kept of a trace
pub record Job : Type 0 where
  pub version : ℕ
  pub functions : List Func
  pub users : List Spec
  pub frames : ℕ
  pub tramps : ℕ
  pub quanta : List ℕ
  pub tasks : List Task
  pub ctls : List Ctl
  pub schedule : List Turn
  pub lines : LinePlan
  pub rings : RingPlan

-- how many functions there are
abbrev pub funcs : Job → ℕ
funcs job = length job.functions

-- the commands among control's lines, in order
abbrev pub commands_in : List Ctl → List Command
commands_in [] = []
commands_in (Run c ∷ rest) = c ∷ commands_in rest
commands_in (Until t n ∷ rest) = commands_in rest

-- the commands of a job, which are numbered from 1
abbrev pub commands : Job → List Command
commands job = commands_in job.ctls

-- the command of a number, from 1, if there is one
abbrev pub command_at : Job → ℕ → Option Command
command_at job zero = None
command_at job (suc k) = slice_get (commands job) k

-- the waits of control that stand before its command of this number, from 0
abbrev pub waits_before : ℕ → List Ctl → List (ℕ × ℕ)
waits_before n [] = []
waits_before n (Until t acts ∷ rest) = (t, acts) ∷ waits_before n rest
waits_before zero (Run c ∷ rest) = []
waits_before (suc n) (Run c ∷ rest) = waits_before n rest
