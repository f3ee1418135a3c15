-- What the lines above a line have declared.
use Rattle.std.specs.Prelude.{ℕ, zero, suc, Bool, true, false, List, [], ◌∷◌, ◌++◌, Option, Some, None, unwrap_or}
use Rattle.ft_base.specs.declared.task.TaskAct.{TaskAct}
use Rattle.ft_base.specs.declared.task.TaskAct.TheVariants.{Call}
use Rattle.ft_base.specs.declared.turn.Turn.{Turn}
use Rattle.ft_base.specs.Job.{Func, Spec, Trigger}
use Rattle.ft_base.specs.Versions.{limits_of}
use Rattle.module_table.specs.Lines.{Line as ModuleLine}
use Rattle.script_waits.specs.declared.script.LinedAct.{LinedAct}
use Rattle.script_waits.specs.Tasks.{LinedTask}
use Rattle.ft_script.specs.declared.levels.Levels.{Levels}
use Rattle.ft_script.specs.Levels.{level_ground, levels_after}

-- a line of control as the script has it: a command, a load or an unload; or a wait until a task has finished this many acts
pub data ScriptCtl : Type 0 where
  Run : (line : ModuleLine) → ScriptCtl
  Until : (task : ℕ) → (acts : ℕ) → ScriptCtl

-- a line of control, and its number in the script
pub record LinedCtl : Type 0 where
  pub ctl : ScriptCtl
  pub line : ℕ

-- what the lines above have declared, each list in the order of the lines
pub record Above : Type 0 where
  pub version : ℕ  -- the version of the language
  pub lines : ℕ  -- how many lines there are
  pub rank : ℕ  -- the rank of the last of them that has one
  pub frames : Option ℕ  -- frames of a shadow stack, if the script says
  pub tramps : Option ℕ  -- trampoline slots, if the script says
  pub functions : List Func
  pub absent : List ℕ  -- the modules that aren't loaded at first
  pub ring : Option ℕ  -- entries of each CPU's trace ring, if the script says
  pub tracing : Bool  -- whether tracing is on at first
  pub triggers : List Trigger  -- what switches it
  pub users : List Spec
  pub user_lines : List ℕ  -- the line of each user
  pub quanta : List ℕ  -- the quantum of each CPU
  pub tasks : List LinedTask
  pub levels : Levels  -- the open calls of the last task
  pub acts : ℕ  -- how many acts there are, over all tasks
  pub calls : ℕ  -- how many of them are calls
  pub ctls : List LinedCtl  -- the lines of control
  pub waits : ℕ  -- how many of them are waits
  pub lane_count : ℕ  -- how many lanes there are
  pub lanes : List ℕ  -- the lane of each command, if there are lanes
  pub turns : List Turn  -- the schedule
  pub steps : ℕ  -- how many steps it has

-- nothing is declared above the first line, which says the version
abbrev pub none_above : Above
none_above = record {
  version = 1;
  lines = 0;
  rank = 0;
  frames = None;
  tramps = None;
  functions = [];
  absent = [];
  ring = None;
  tracing = true;
  triggers = [];
  users = [];
  user_lines = [];
  quanta = [];
  tasks = [];
  levels = level_ground;
  acts = 0;
  calls = 0;
  ctls = [];
  waits = 0;
  lane_count = 0;
  lanes = [];
  turns = [];
  steps = 0;
}

-- how many trampoline slots there are; a script that doesn't say it has as many as there may be
abbrev pub slots_of : Above → ℕ
slots_of above = unwrap_or above.tramps (limits_of above.version).tramps

-- ## what a line declares

-- what a line declares: what it names is a number, its filter text is an edit, and a trigger's text is a trigger
pub data Declaration : Type 0 where
  nothing : Declaration  -- blank, or a comment
  a_version : (number : ℕ) → Declaration
  a_function : (function : Func) → Declaration
  some_frames : (count : ℕ) → Declaration  -- of a shadow stack
  some_slots : (count : ℕ) → Declaration  -- of trampolines
  an_absence : (owner : ℕ) → Declaration  -- of a module, at first
  some_entries : (count : ℕ) → Declaration  -- of each trace ring
  no_tracing : Declaration  -- at first
  a_trigger : (trigger : Trigger) → Declaration
  a_user : (user : Spec) → Declaration
  a_cpu : (quantum : ℕ) → Declaration  -- it has the next number
  a_task : (pid : ℕ) → (cpu : ℕ) → Declaration
  an_act : (act : TaskAct) → Declaration  -- of the last task
  a_lane : Declaration  -- it has the next number
  a_ctl : (ctl : ScriptCtl) → Declaration
  more_turns : (turns : List Turn) → (steps : ℕ) → Declaration  -- the schedule has this many steps with them

-- a line that isn't refused: its rank, and what it declares
pub record Resolved : Type 0 where
  pub rank : ℕ
  pub what : Declaration

-- ## what is declared with it

-- the tasks, the last of which has one more act
abbrev pub push_act : List LinedTask → LinedAct → List LinedTask
push_act [] act = []
push_act (task ∷ tasks) act = push_act_in task tasks act (push_act tasks act)
  where
    push_act_in : LinedTask → List LinedTask → LinedAct → List LinedTask → List LinedTask
    push_act_in task [] act later = record task { acts = task.acts ++ act ∷ [] } ∷ []
    push_act_in task (_ ∷ _) act later = task ∷ later

-- how many calls there are with this act
abbrev pub calls_with : TaskAct → ℕ → ℕ
calls_with (Call f) calls = suc calls
calls_with _ calls = calls

-- how many waits there are with this line of control
abbrev pub waits_with : ScriptCtl → ℕ → ℕ
waits_with (Run line) waits = waits
waits_with (Until task acts) waits = suc waits

-- the lanes of control's lines with one more of them, which belongs to the last lane, if there is one
abbrev pub lanes_with : ℕ → List ℕ → List ℕ
lanes_with zero lanes = lanes
lanes_with (suc last) lanes = lanes ++ last ∷ []

-- one more act of the last task
abbrev pub with_act : Above → TaskAct → Above
with_act above act = record above {
  tasks = push_act above.tasks (record { act = act; line = suc above.lines });
  levels = levels_after above.levels act;
  acts = suc above.acts;
  calls = calls_with act above.calls;
}

-- one more line of control
abbrev pub with_ctl : Above → ScriptCtl → Above
with_ctl above ctl = record above {
  ctls = above.ctls ++ record { ctl = ctl; line = suc above.lines } ∷ [];
  waits = waits_with ctl above.waits;
  lanes = lanes_with above.lane_count above.lanes;
}

-- one more user
abbrev pub with_user : Above → Spec → Above
with_user above user = record above { users = above.users ++ user ∷ []; user_lines = above.user_lines ++ suc above.lines ∷ [] }

-- one more of what this is
abbrev pub with_what : Above → Declaration → Above
with_what above nothing = above
with_what above (a_version number) = record above { version = number }
with_what above (a_function function) = record above { functions = above.functions ++ function ∷ [] }
with_what above (some_frames count) = record above { frames = Some count }
with_what above (some_slots count) = record above { tramps = Some count }
with_what above (an_absence owner) = record above { absent = above.absent ++ owner ∷ [] }
with_what above (some_entries count) = record above { ring = Some count }
with_what above no_tracing = record above { tracing = false }
with_what above (a_trigger trigger) = record above { triggers = above.triggers ++ trigger ∷ [] }
with_what above (a_user user) = with_user above user
with_what above (a_cpu quantum) = record above { quanta = above.quanta ++ quantum ∷ [] }
with_what above (a_task pid cpu) = record above { tasks = above.tasks ++ record { pid = pid; cpu = cpu; acts = [] } ∷ []; levels = level_ground }
with_what above (an_act act) = with_act above act
with_what above a_lane = record above { lane_count = suc above.lane_count }
with_what above (a_ctl ctl) = with_ctl above ctl
with_what above (more_turns turns steps) = record above { turns = above.turns ++ turns; steps = steps }

-- what is declared above the next line, after this one
abbrev pub declared : Above → Resolved → Above
declared above line = record (with_what above line.what) { lines = suc above.lines; rank = line.rank }
