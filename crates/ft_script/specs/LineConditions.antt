-- What a line that isn't refused declares fits what is declared above it.
use Rattle.std.specs.Prelude.{◌≡◌, ◌≤◌, ◌<◌, ◌*◌, ℕ, suc, false, true, [], length, Some}
use Rattle.ft_base.specs.declared.limits.TheConstants.{CPUS, TASKS, LANES, COMMANDS, UNTILS, ACTS, LEVELS, FRAMES, TRIGGERS, ITEMS, QUANTUM, STEPS}
use Rattle.ft_base.specs.declared.task.TaskAct.{TaskAct}
use Rattle.ft_base.specs.declared.task.TaskAct.TheVariants.{Call}
use Rattle.ft_base.specs.Job.{Func, Spec, Trigger}
use Rattle.ft_base.specs.Name.{is_name_text}
use Rattle.ft_base.specs.Versions.{limits_of, IsVersion}
use Rattle.ft_base.specs.WellFormed.{IsActIn}
use Rattle.func_table.specs.Rows.{is_name_or_none}
use Rattle.user_specs.specs.Bound.{call_bound_of}
use Rattle.func_table.specs.Modules.{modules_in}
use Rattle.ft_job.specs.Plans.{IsTriggerOf}
use Rattle.module_table.specs.Lines.{Plain}
use Rattle.ft_script.specs.Levels.{open_calls}
use Rattle.ft_script.specs.Above.{Above, ScriptCtl, Run, Until, Declaration, nothing, a_version, a_function, some_frames, some_slots, an_absence, some_entries, no_tracing, a_trigger, a_user, a_cpu, a_task, an_act, a_lane, a_ctl, more_turns, Resolved}
use Rattle.ft_script.specs.Expansion.{command_count}
use Rattle.ft_script.specs.Causes.{function_names, is_among, is_absent}
use Rattle.ft_script.specs.Holds.{IsLine, IsRing}

-- a function has names, and its own is new; there is room for it, and it comes before the absent modules, the triggers and the lines of control
pub record IsNewFunction (above : Above) (f : Func) : Type 0 where
  pub name : is_name_text f.name ≡ true
  pub owner : is_name_or_none f.owner ≡ true
  pub new : is_among (function_names above) f.name ≡ false
  pub room : length above.functions < (limits_of above.version).funcs
  pub first : above.absent ≡ []
  pub untriggered : above.triggers ≡ []
  pub before : above.ctls ≡ []

-- trampoline slots are no more than there may be, and are said before the lines of control
pub record IsSlots (above : Above) (count : ℕ) : Type 0 where
  pub few : count ≤ (limits_of above.version).tramps
  pub before : above.ctls ≡ []

-- a module that isn't loaded at first is there, and isn't named yet; it comes before the lines of control and in a script without lanes
pub record IsNewAbsence (above : Above) (owner : ℕ) : Type 0 where
  pub there : owner < length (modules_in above.functions)
  pub new : is_absent above (Some owner) ≡ false
  pub before : above.ctls ≡ []
  pub alone : above.lane_count ≡ 0

-- there is room for one more trigger, which is one over the functions
pub record IsNewTrigger (above : Above) (trigger : Trigger) : Type 0 where
  pub room : length above.triggers < TRIGGERS
  pub over : IsTriggerOf (length above.functions) trigger

-- a user's function is there; there is room for it, and it comes before the calls and the lines of control
pub record IsNewUser (above : Above) (s : Spec) : Type 0 where
  pub act : IsActIn (length above.functions) s.act
  pub room : length above.users < (limits_of above.version).users
  pub first : above.calls ≡ 0
  pub before : above.ctls ≡ []

-- a task's CPU is there; there is room for it, and it comes before the lines of control
pub record IsNewTask (above : Above) (cpu : ℕ) : Type 0 where
  pub placed : cpu < length above.quanta
  pub room : length above.tasks < TASKS
  pub before : above.ctls ≡ []

-- a call's function is there, and there may be one more call
abbrev pub IsNextCall : Above → TaskAct → Type 0
IsNextCall above (Call f) = (f.0 < length above.functions) × (open_calls above.levels < LEVELS)
    × (call_bound_of above.users (limits_of above.version).levels * suc above.calls ≤ ITEMS)
IsNextCall above _ = Unit {0}

-- there is a task; there is room for one more act, and it comes before the lines of control
pub record IsNextAct (above : Above) (act : TaskAct) : Type 0 where
  pub some : 1 ≤ length above.tasks
  pub room : above.acts < ACTS
  pub call : IsNextCall above act
  pub before : above.ctls ≡ []

-- there is room for one more command, or one more wait. A load or an unload may still bring too many
abbrev pub HasRoom : Above → ScriptCtl → Type 0
HasRoom above (Run line) = command_count above < COMMANDS
HasRoom above (Until task acts) = above.waits < UNTILS

-- a wait, a load and an unload come where there are no lanes
abbrev pub IsWhereItMay : Above → ScriptCtl → Type 0
IsWhereItMay above (Run (Plain command)) = Unit {0}
IsWhereItMay above ctl = above.lane_count ≡ 0

-- there is room for one more lane, each line of control above has one, and no module is absent
pub record IsNextLane (above : Above) : Type 0 where
  pub room : above.lane_count < LANES
  pub each : length above.lanes ≡ length above.ctls
  pub loaded : above.absent ≡ []

-- this fits
abbrev pub FitsAs : Above → Declaration → Type 0
FitsAs above nothing = Unit {0}
FitsAs above (a_version number) = (above.lines ≡ 0) × IsVersion number
FitsAs above (a_function function) = IsNewFunction above function
FitsAs above (some_frames count) = count ≤ FRAMES
FitsAs above (some_slots count) = IsSlots above count
FitsAs above (an_absence owner) = IsNewAbsence above owner
FitsAs above (some_entries count) = IsRing count
FitsAs above no_tracing = Unit {0}
FitsAs above (a_trigger trigger) = IsNewTrigger above trigger
FitsAs above (a_user user) = IsNewUser above user
FitsAs above (a_cpu quantum) = (quantum ≤ QUANTUM) × (length above.quanta < CPUS)
FitsAs above (a_task pid cpu) = IsNewTask above cpu
FitsAs above (an_act act) = IsNextAct above act
FitsAs above a_lane = IsNextLane above
FitsAs above (a_ctl ctl) = IsLine above ctl × HasRoom above ctl × IsWhereItMay above ctl
FitsAs above (more_turns turns steps) = steps ≤ STEPS

-- absent modules, triggers, acts, lanes and lines of control come at ranks of their own
abbrev pub IsRanked : ℕ → Declaration → Type 0
IsRanked rank (an_absence owner) = 2 ≤ rank
IsRanked rank (a_trigger trigger) = 2 ≤ rank
IsRanked rank (an_act act) = 5 ≤ rank
IsRanked rank a_lane = 6 ≤ rank
IsRanked rank (a_ctl ctl) = 6 ≤ rank
IsRanked rank _ = Unit {0}

-- the line comes in the order of ranks, and what it declares fits
pub record Fits (above : Above) (line : Resolved) : Type 0 where
  pub order : above.rank ≤ line.rank
  pub ranked : IsRanked line.rank line.what
  pub what : FitsAs above line.what
