-- The job of a script, or the line for which it is refused, and why.
use Rattle.std.specs.Prelude.{◌≡◌, ◌≢◌, ℕ, suc, ◌+◌, ◌==◌, ◌||◌, Bool, true, false, List, [], ◌∷◌, ◌++◌, length, map, slice_get, unwrap_or, Option, Some, None, Result, Ok, Err, ◌⊎◌, if◌then◌else◌}
use Rattle.ft_base.specs.declared.limits.TheConstants.{USUAL_FRAMES, USUAL_RING, USUAL_TURNS}
use Rattle.ft_base.specs.declared.number.FuncNo.{FuncNo}
use Rattle.ft_base.specs.declared.turn.Turn.{Turn}
use Rattle.ft_base.specs.declared.turn.Who.TheVariants.{All}
use Rattle.ft_base.specs.declared.user.Act.{Act}
use Rattle.ft_base.specs.declared.user.Act.TheVariants.{CallIn, IrqIn}
use Rattle.ft_base.specs.Job.{Job, Spec, Task, LinePlan, RingPlan}
use Rattle.script_waits.specs.declared.script.LinedAct.{LinedAct}
use Rattle.script_waits.specs.declared.script.ControlLine.{ControlLine}
use Rattle.script_waits.specs.declared.script.Wait.{Wait}
use Rattle.script_waits.specs.declared.script.Wait.TheVariants.{Command as ACommand, Until as AnUntil}
use Rattle.script_waits.specs.Tasks.{LinedTask, tracks_of}
use Rattle.script_waits.specs.Greedy.{IsDeadlock, IsLeast}
use Rattle.func_table.specs.Modules.{module_of}
use Rattle.module_coverage.specs.Loaded.{is_changing}
use Rattle.module_coverage.specs.Reading.{IsUncoveredCall}
use Rattle.script_text.specs.Lines.{Line, lines_of}
use Rattle.script_form.specs.Forms.{LineForm}
use Rattle.script_form.specs.Lines.{line_form}
use Rattle.ft_script.specs.declared.faults.Cause.{Cause}
use Rattle.ft_script.specs.declared.faults.Cause.TheVariants.{Version, Deadlock, Unloaded, NoMemory}
use Rattle.ft_script.specs.declared.faults.ScriptFault.{ScriptFault}
use Rattle.ft_script.specs.Above.{Above, ScriptCtl, Run, Until, none_above, slots_of, Declaration, nothing, Resolved, declared}
use Rattle.ft_script.specs.Expansion.{expansion_of, act_in_job}
use Rattle.ft_script.specs.Causes.{rank_of, named, cause_of}

-- ## what the lines declare

-- what this is, or nothing if it is a cause
abbrev pub or_nothing : Result Declaration Cause → Declaration
or_nothing (Ok what) = what
or_nothing (Err cause) = nothing

-- what a line of this form says, if it isn't refused
abbrev pub said : Above → Option LineForm → Resolved
said above None = record { rank = above.rank; what = nothing }
said above (Some form) = record { rank = rank_of form above.rank; what = or_nothing (named above form) }

-- what is declared above the next line, after this one; what a line that is refused adds makes no difference
unfoldable pub with_line : Above → Line → Above
with_line above line = declared above (said above (line_form line.bytes))

-- what is declared after these lines
abbrev pub declared_after : Above → List Line → Above
declared_after above [] = above
declared_after above (line ∷ below) = declared_after (with_line above line) below

-- what a text declares
abbrev pub declared_in : List ℕ → Above
declared_in text = declared_after none_above (lines_of text)

-- ## the refusal: the lowest line that has a cause, and its first cause

-- the fault of a line with this cause, or that of the lines below if it has none
abbrev pub refusal_at : Above → Option Cause → Option ScriptFault → Option ScriptFault
refusal_at above (Some cause) below = Some (record { line = suc above.lines; cause = cause })
refusal_at above None below = below

-- the fault of the first of these lines that has a cause
abbrev pub refusal_below : Above → List Line → Option ScriptFault
refusal_below above [] = None
refusal_below above (line ∷ below) = refusal_at above (cause_of above line below) (refusal_below (with_line above line) below)

-- the fault of the first line of a text that has a cause; an empty text has no line 1
abbrev pub refusal_of : List ℕ → Option ScriptFault
refusal_of [] = Some (record { line = 1; cause = Version })
refusal_of (byte ∷ text) = refusal_below none_above (lines_of (byte ∷ text))

-- the fault is at a line with this cause, and no line above it has one
pub record IsFirstRefusal (start : Above) (lines : List Line) (fault : ScriptFault) : Type 0 where
  pub above : List Line
  pub line : Line
  pub below : List Line
  pub split : lines ≡ above ++ line ∷ below
  pub number : fault.line ≡ suc (start.lines + length above)
  pub cause : cause_of (declared_after start above) line below ≡ Some fault.cause
  pub clean : (front back : List Line) (l : Line) → above ≡ front ++ l ∷ back → cause_of (declared_after start front) l (back ++ line ∷ below) ≡ None

-- a text has a line, and no line of it has a cause
pub record IsClean (text : List ℕ) : Type 0 where
  pub some : text ≢ []
  pub clean : (front back : List Line) (l : Line) → lines_of text ≡ front ++ l ∷ back → cause_of (declared_after none_above front) l back ≡ None

-- ## whether the script can end

-- what a line of control is for those that wait: commands, loads and unloads count alike
abbrev pub wait_of : ScriptCtl → Wait
wait_of (Run line) = ACommand
wait_of (Until t n) = AnUntil (record { 0 = t }) n

-- the lines of control, for those that wait
abbrev pub control_of : Above → List ControlLine
control_of above = map (λ c. record { wait = wait_of c.ctl; line = c.line }) above.ctls

-- the lowest line that is left waiting in the greedy run, or none if all come to their ends. The run goes through control's lines from first to
-- last, also in a script with lanes: no line of control waits there, so that in every order all commands get through
abbrev pub LeavesWaiting : List ℕ → Option ℕ → Type 0
LeavesWaiting text lowest = IsDeadlock (tracks_of (declared_in text).tasks) (control_of (declared_in text)) lowest

-- ## the job: the list of the lines' meanings

-- a task whose waits are those of the job, if there are so many commands after each command, load and unload
abbrev pub task_in_job : List ℕ → LinedTask → LinedTask
task_in_job ends task = record task { acts = map (λ (a : LinedAct). record a { act = act_in_job ends a.act }) task.acts }

-- a task of the job
abbrev pub task_of : LinedTask → Task
task_of task = record { pid = task.pid; cpu = task.cpu; acts = map (λ a. a.act) task.acts }

-- the tasks, whose waits are those of the job
abbrev pub job_tasks_of : Above → List LinedTask
job_tasks_of above = map (task_in_job (expansion_of above).ends) above.tasks

-- the tasks of the job
abbrev pub tasks_of : Above → List Task
tasks_of above = map task_of (job_tasks_of above)

-- the schedule; without a `sched` line each actor steps in turn
abbrev pub schedule_of : List Turn → List Turn
schedule_of turns = if length turns == 0 then record { who = All; count = USUAL_TURNS } ∷ [] else turns

-- what is kept of a trace
abbrev pub rings_of : Above → RingPlan
rings_of above = record { ring = unwrap_or above.ring USUAL_RING; tracing = above.tracing; triggers = above.triggers }

-- the job of what is declared
unfoldable pub job_of : Above → Job
job_of above = record {
  version = above.version;
  functions = above.functions;
  users = above.users;
  frames = unwrap_or above.frames USUAL_FRAMES;
  tramps = slots_of above;
  quanta = above.quanta;
  tasks = tasks_of above;
  ctls = (expansion_of above).ctls;
  schedule = schedule_of above.turns;
  lines = record { lanes = above.lanes; absent = above.absent; modules = (expansion_of above).rows };
  rings = rings_of above;
}

-- ## whether modules are there when their functions are needed

-- the function that an act calls, if there is an act
abbrev pub called_by : Option Act → Option FuncNo
called_by None = None
called_by (Some (CallIn f)) = Some f
called_by (Some (IrqIn f)) = Some f

-- the module, if there is one, is named by a line: it is absent at first, or is loaded or unloaded
abbrev pub is_named_module : LinePlan → Option ℕ → Bool
is_named_module lines None = false
is_named_module lines (Some m) = is_changing lines m

-- the function, if there is one, lies in such a module
abbrev pub lies_in_named : Job → Option FuncNo → Bool
lies_in_named job None = false
lies_in_named job (Some f) = is_named_module job.lines (module_of job.functions f.0)

-- at its callbacks a user calls a function of such a module, or it puts one in the place of those that it traces. Nothing in the script says
-- when
abbrev pub needs_named : Job → Spec → Bool
needs_named job s = lies_in_named job (called_by s.act) || lies_in_named job s.ipmodify

-- line n is that of such a user
pub record IsLineOfNeed (job : Job) (above : Above) (n : ℕ) : Type 0 where
  pub number : ℕ
  pub spec : Spec
  pub user : slice_get above.users number ≡ Some spec
  pub line : slice_get above.user_lines number ≡ Some n
  pub needs : needs_named job spec ≡ true

-- line n is that of such a user, or that of a call that isn't covered
pub data MayFindUnloaded (above : Above) (n : ℕ) : Type 0 where
  user_may : IsLineOfNeed (job_of above) above n → MayFindUnloaded above n
  call_may : IsUncoveredCall (job_of above) (tracks_of above.tasks) n → MayFindUnloaded above n

-- the lowest line that may find a module unloaded whose function it needs, or none
abbrev pub LeavesUnloaded : List ℕ → Option ℕ → Type 0
LeavesUnloaded text lowest = IsLeast (MayFindUnloaded (declared_in text)) lowest

-- ## what the reader answers

-- the text is a script, and this is its job
pub record IsJobOf (text : List ℕ) (job : Job) : Type 0 where
  pub accepted : refusal_of text ≡ None
  pub ends : LeavesWaiting text None
  pub loaded : LeavesUnloaded text None
  pub meaning : job ≡ job_of (declared_in text)

-- no line has a cause, and the script can't end: the fault is at the lowest line that is left waiting
pub record IsDeadlockOf (text : List ℕ) (fault : ScriptFault) : Type 0 where
  pub accepted : refusal_of text ≡ None
  pub cause : fault.cause ≡ Deadlock
  pub line : LeavesWaiting text (Some fault.line)

-- no line has a cause and the script can end, but a module may be unloaded when a function of it is needed: the fault is at the lowest line
-- that may find it so
pub record IsUnloadedOf (text : List ℕ) (fault : ScriptFault) : Type 0 where
  pub accepted : refusal_of text ≡ None
  pub ends : LeavesWaiting text None
  pub cause : fault.cause ≡ Unloaded
  pub line : LeavesUnloaded text (Some fault.line)

-- the text is refused, with this fault
abbrev pub IsRefusalOf : List ℕ → ScriptFault → Type 0
IsRefusalOf text fault = (refusal_of text ≡ Some fault) ⊎ (IsDeadlockOf text fault ⊎ IsUnloadedOf text fault)

-- out of memory
abbrev pub no_memory : ScriptFault
no_memory = record { line = 0; cause = NoMemory }

-- the reader may answer with this fault
abbrev pub IsFaultOf : List ℕ → ScriptFault → Type 0
IsFaultOf text fault = (fault ≡ no_memory) ⊎ IsRefusalOf text fault

-- the reader may answer with this cause at a line that is this
abbrev pub IsRefused : {X : Type 0} → Result X Cause → Cause → Type 0
IsRefused right cause = (cause ≡ NoMemory) ⊎ (right ≡ Err cause)

-- the reader may answer with this fault at a line with this cause
abbrev pub IsFaultAt : Above → Option Cause → ScriptFault → Type 0
IsFaultAt above cause fault = (fault ≡ no_memory) ⊎ (refusal_at above cause None ≡ Some fault)
