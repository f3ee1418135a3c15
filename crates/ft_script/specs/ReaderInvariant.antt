-- What a reader keeps of the lines above.
use Rattle.std.specs.Prelude.{◌≡◌, ◌≢◌, ℕ, Bool, true, false, List, [], length, map, unwrap_or, is_some, Option, Some, None, IfSome}
use Rattle.std.specs.List.{AllByRecursion as Each}
use Rattle.std.specs.Option.{option_copied}
use Rattle.ft_base.specs.declared.limits.TheConstants.{USUAL_FRAMES}
use Rattle.ft_base.specs.Job.{Job}
use Rattle.filter_commands.specs.Meanings.{plain_trigger}
use Rattle.ft_desk.specs.Lines.{lines_of}
use Rattle.ft_job.specs.Parts.{Parts, cpus_from}
use Rattle.ft_job.specs.Plans.{row_of, IsModule}
use Rattle.module_table.specs.Lines.{owners_of}
use Rattle.module_table.specs.Made.{line_of}
use Rattle.func_table.specs.Modules.{modules_in}
use Rattle.module_table.specs.Reached.{IsLineIn}
use Rattle.script_form.specs.Forms.{LineForm, absent, load, unload}
use Rattle.user_specs.specs.Plain.{spec_of}
use Rattle.script_waits.specs.declared.script.ControlLine.{ControlLine}
use Rattle.script_waits.specs.Tasks.{lined_task}
use Rattle.ft_script.specs.declared.reader.Reader.{Reader}
use Rattle.ft_script.specs.declared.declaration.ScriptCtl.{ScriptCtl as KeptCtl}
use Rattle.ft_script.specs.declared.declaration.ScriptCtl.TheVariants.{Run as KeptRun, Until as KeptUntil}
use Rattle.ft_script.specs.declared.expansion.Expansion.{Expansion as KeptExpansion}
use Rattle.ft_script.specs.declared.reader.LinedCtl.{LinedCtl as KeptLine}
use Rattle.ft_script.specs.declared.reader.coverage.NamedModules.{NamedModules}
use Rattle.ft_script.specs.declared.declaration.Declaration.{Declaration as KeptDeclaration}
use Rattle.ft_script.specs.declared.declaration.Declaration.TheVariants.{Nothing, Version, Function, Frames, Slots, Absence, Entries, NoTracing, Trigger, User, Cpu, Task, Act, Lane, Ctl, Turns}
use Rattle.ft_script.specs.declared.declaration.Resolved.{Resolved as KeptResolved}
use Rattle.ft_script.specs.Above.{Above, ScriptCtl, Run, Until, LinedCtl, slots_of, Declaration, nothing, a_version, a_function, some_frames, some_slots, an_absence, some_entries, no_tracing, a_trigger, a_user, a_cpu, a_task, an_act, a_lane, a_ctl, more_turns, Resolved}
use Rattle.ft_script.specs.Expansion.{Expansion, expansion_of}
use Rattle.ft_script.specs.Script.{wait_of, tasks_of, schedule_of, rings_of}
use Rattle.ft_script.specs.Holds.{IsPlain}

-- a line of control that the program holds, if there are this many tasks
abbrev pub script_ctl_of : ℕ → KeptCtl → ScriptCtl
script_ctl_of tasks (KeptRun line) = Run (line_of tasks line)
script_ctl_of tasks (KeptUntil task acts) = Until task.0 acts

-- the same with its line
abbrev pub lined_ctl : ℕ → KeptLine → LinedCtl
lined_ctl tasks c = record { ctl = script_ctl_of tasks c.ctl; line = c.line }

-- what it is for those that wait; there the number of tasks makes no difference
abbrev pub control_line : KeptLine → ControlLine
control_line c = record { wait = wait_of (script_ctl_of 0 c.ctl); line = c.line }

-- what the lines that a reader has read declare
abbrev pub above_of : Reader → Above
above_of r = record {
  version = r.version;
  lines = r.lines;
  rank = r.rank;
  frames = r.frames;
  tramps = r.tramps;
  functions = r.functions.functions;
  absent = r.absent.items;
  ring = r.ring;
  tracing = r.tracing;
  triggers = map plain_trigger r.triggers.items;
  users = map spec_of r.users.items;
  user_lines = r.user_lines.items;
  quanta = r.quanta.items;
  tasks = map lined_task r.tasks.items;
  levels = r.levels;
  acts = r.acts;
  calls = r.calls;
  ctls = map (lined_ctl (length r.tasks.items)) r.ctls.items;
  waits = r.waits;
  lane_count = r.lane_count;
  lanes = r.lanes.items;
  turns = r.turns.items;
  steps = r.steps;
}

-- what lines of control come to, as the program holds it, if there are this many tasks
abbrev pub expansion_in : ℕ → KeptExpansion → Expansion
expansion_in tasks x = record {
  known = x.modules;
  ctls = lines_of tasks x.ctls.items;
  rows = map row_of x.rows.items;
  ends = x.ends.items;
}

-- the line names what is declared
abbrev pub IsCtlIn : KeptExpansion → KeptCtl → Type 0
IsCtlIn x (KeptRun line) = IsLineIn x.modules.declared (length x.modules.loaded) (line_of x.modules.declared.tasks line)
IsCtlIn x (KeptUntil task acts) = Unit {0}

-- if the reader has what the lines of control come to, the script has no lanes, and it is that
abbrev pub HasExpansion : Reader → Type 0
HasExpansion r = IfSome r.expansion (λ x. (r.lane_count ≡ 0) × (expansion_in (length r.tasks.items) x ≡ expansion_of (above_of r)))

-- What a reader keeps besides: the absent modules are there; once a line has named a module, it has the names of all; in a script without
-- lanes it has what the lines of control come to, from the first of them on, and no line has a lane; and in a script with lanes each line of
-- control is a command
pub record ReaderInvariant (r : Reader) : Type 0 where
  pub absent : Each (IsModule r.functions.functions) r.absent.items
  pub names : IfSome r.names (λ names. names ≡ modules_in r.functions.functions)
  pub expansion : HasExpansion r
  pub none : r.lane_count ≡ 0 → r.expansion ≡ None → r.ctls.items ≡ []
  pub some : r.ctls.items ≡ [] → r.expansion ≡ None
  pub lanes : r.lane_count ≡ 0 → r.lanes.items ≡ []
  pub plain : r.lane_count ≢ 0 → Each (λ c. IsPlain c.ctl) (above_of r).ctls

-- a reader that has read all lines has what they come to, also if there is no line of control
pub record IsOpen (r : Reader) : Type 0 where
  pub absent : Each (IsModule r.functions.functions) r.absent.items
  pub expansion : HasExpansion r
  pub some : r.lane_count ≡ 0 → is_some r.expansion ≡ true

-- the line says the name of a module by which it is looked up
abbrev pub names_module : LineForm → Bool
names_module (absent owner) = true
names_module (load owner) = true
names_module (unload owner) = true
names_module _ = false

-- the names of modules are at hand if the line needs them
abbrev pub HasNames : Reader → LineForm → Type 0
HasNames r form = names_module form ≡ true → r.names ≡ Some (modules_in r.functions.functions)

-- the modules that lines of this job name, and the module of each function
pub record AreOf (named : NamedModules) (job : Job) : Type 0 where
  pub owners : named.owners.now ≡ owners_of job.functions
  pub absent : named.absent.now ≡ job.lines.absent
  pub rows : map row_of named.rows.now ≡ job.lines.modules

-- what is declared is no line of control
abbrev pub IsOther : Declaration → Type 0
IsOther (a_ctl ctl) = ⊥
IsOther what = Unit {0}

-- the names of modules that a reader has once this is declared: a function may lie in a new module, so they are read again
abbrev pub names_with : Declaration → Option (List (List ℕ)) → Option (List (List ℕ))
names_with (a_function function) names = None
names_with what names = names

-- a reader's names of modules, and what its lines of control come to, stay as they are
pub record KeepsRest (old new : Reader) : Type 0 where
  pub names : new.names ≡ old.names
  pub expansion : new.expansion ≡ old.expansion

-- what a line declares as the program holds it, if there are this many tasks
abbrev pub declaration_of : ℕ → KeptDeclaration → Declaration
declaration_of tasks Nothing = nothing
declaration_of tasks (Version number) = a_version number
declaration_of tasks (Function name owner) = a_function (record { name = name.now; owner = option_copied owner })
declaration_of tasks (Frames count) = some_frames count
declaration_of tasks (Slots count) = some_slots count
declaration_of tasks (Absence owner) = an_absence owner
declaration_of tasks (Entries count) = some_entries count
declaration_of tasks NoTracing = no_tracing
declaration_of tasks (Trigger trigger) = a_trigger (plain_trigger trigger)
declaration_of tasks (User spec) = a_user (spec_of spec)
declaration_of tasks (Cpu quantum) = a_cpu quantum
declaration_of tasks (Task pid cpu) = a_task pid cpu
declaration_of tasks (Act act) = an_act act
declaration_of tasks Lane = a_lane
declaration_of tasks (Ctl ctl) = a_ctl (script_ctl_of tasks ctl)
declaration_of tasks (Turns turns steps) = more_turns turns.items steps

-- a line that isn't refused as the program holds it
abbrev pub resolved_of : ℕ → KeptResolved → Resolved
resolved_of tasks line = record { rank = line.rank; what = declaration_of tasks line.what }

-- the parts of the job of what is declared
pub record AreParts (p : Parts) (above : Above) : Type 0 where
  pub version : p.version ≡ above.version
  pub functions : p.functions ≡ above.functions
  pub users : p.users ≡ above.users
  pub frames : p.frames ≡ unwrap_or above.frames USUAL_FRAMES
  pub tramps : p.tramps ≡ slots_of above
  pub cpus : p.cpus ≡ cpus_from 0 above.quanta (tasks_of above)
  pub ctls : lines_of (length above.tasks) p.ctls ≡ (expansion_of above).ctls
  pub schedule : p.schedule ≡ schedule_of above.turns
  pub lines : p.lines ≡ record { lanes = above.lanes; absent = above.absent; modules = (expansion_of above).rows }
  pub rings : p.rings ≡ rings_of above
