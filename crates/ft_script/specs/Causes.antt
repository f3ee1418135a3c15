-- What a line declares, or the first cause for which it is refused. This is seen from the line and from what the lines above declare; only
-- whether an act is its task's last is seen from the lines below.
use Rattle.std.specs.Prelude.{ℕ, ◌+◌, ◌*◌, ◌^◌, ◌==◌, ◌&&◌, ◌||◌, not, nat_le, nat_lt, Bool, true, false, List, [], ◌∷◌, length, map, sum_by, is_some, position, Option, Some, None, option_map, Result, Ok, Err, if◌then◌else◌}
use Rattle.std.specs.List.{list_any}
use Rattle.std.specs.Str.{bytes_eq}
use Rattle.ft_base.specs.declared.limits.TheConstants.{CPUS, TASKS, LANES, COMMANDS, UNTILS, ACTS, LEVELS, FRAMES, RING, TRIGGERS, GRAPH_DEPTH, ITEMS, QUANTUM, PID, NAME_BYTES}
use Rattle.ft_base.specs.declared.number.FuncNo.{FuncNo}
use Rattle.ft_base.specs.declared.task.TaskAct.{TaskAct}
use Rattle.ft_base.specs.declared.task.TaskAct.TheVariants.{Call, Ret, Raise, Lower, After}
use Rattle.ft_base.specs.declared.user.Act.{Act as OwnAct}
use Rattle.ft_base.specs.declared.user.Act.TheVariants.{CallIn, IrqIn}
use Rattle.ft_base.specs.declared.user.Half.{Half}
use Rattle.ft_base.specs.declared.user.Half.TheVariants.{Filter as OfFilter, Notrace as OfNotrace}
use Rattle.ft_base.specs.Marks.{Marks}
use Rattle.ft_base.specs.Job.{Spec, Trigger, Command, Register, Unregister, Filter, Notrace, Pid, NoPid, Enable, Disable, MaxDepth, Edit}
use Rattle.ft_base.specs.Same.{rank}
use Rattle.ft_base.specs.Versions.{limits_of}
use Rattle.filter_commands.specs.Causes.{first_cause}
use Rattle.filter_commands.specs.Edits.{edit_of}
use Rattle.filter_commands.specs.Triggers.{trigger_of, trigger_cause}
use Rattle.ft_schedule.specs.declared.item.SchedItem.{SchedItem}
use Rattle.ft_schedule.specs.Items.{turn_from}
use Rattle.ft_schedule.specs.Causes.{is_past_limit as is_past_sched_limit, has_unknown, steps_of}
use Rattle.user_specs.specs.Bound.{call_bound_of}
use Rattle.func_table.specs.Modules.{modules_in, number_among}
use Rattle.module_table.specs.Lines.{Plain, Load, Unload}
use Rattle.script_text.specs.Lines.{Word, Line}
use Rattle.script_form.specs.Forms.{LineForm, skip, version, func, depth, tramps, absent, ring, tracing_off, trigger, user, new_cpu, new_task, new_lane, call, ret, raise, lower, after, register, unregister, write, pids, enable, disable, max_depth, until, load, unload, sched}
use Rattle.script_form.specs.Forms.{UserLine, UserAct, calls, irqs}
use Rattle.script_form.specs.Lines.{line_form}
use Rattle.ft_script.specs.declared.faults.Cause.{Cause}
use Rattle.ft_script.specs.declared.faults.Cause.TheVariants.{Version, Syntax, Limit, Duplicate, Unknown, Pattern, Unbalanced}
use Rattle.ft_script.specs.declared.levels.Levels.{Levels}
use Rattle.ft_script.specs.Levels.{present, open_here, open_calls, levels_after, is_raised, is_unfinished}
use Rattle.ft_script.specs.Above.{Above, Run, Until, Declaration, nothing, a_version, a_function, some_frames, some_slots, an_absence, some_entries, no_tracing, a_trigger, a_user, a_cpu, a_task, an_act, a_lane, a_ctl, more_turns, Resolved, with_ctl}
use Rattle.ft_script.specs.Expansion.{command_count}

-- ## syntax

-- the rank of a line, or the one before if it says nothing; lines come in the order of their ranks
abbrev pub rank_of : LineForm → ℕ → ℕ
rank_of skip before = before
rank_of (version number) before = 0
rank_of (func name owner) before = 1
rank_of (depth frames) before = 2
rank_of (tramps slots) before = 2
rank_of (absent owner) before = 2
rank_of (ring entries) before = 2
rank_of tracing_off before = 2
rank_of (trigger text) before = 2
rank_of (user u) before = 3
rank_of (new_cpu cpu quantum) before = 4
rank_of (new_task pid cpu) before = 5
rank_of (call name) before = 5
rank_of ret before = 5
rank_of (raise to) before = 5
rank_of lower before = 5
rank_of (after n) before = 5
rank_of (sched items) before = 7
rank_of _ before = 6

-- an act of a task
abbrev pub is_act : LineForm → Bool
is_act (call name) = true
is_act ret = true
is_act (raise to) = true
is_act lower = true
is_act (after n) = true
is_act _ = false

-- a line of control above has no lane
abbrev pub has_ctl_in_no_lane : Above → Bool
has_ctl_in_no_lane above = not (length above.lanes == length above.ctls)

-- a lane that isn't the next one, a lane below a line of control that has none, a lane in a script with an absent module
abbrev pub is_wrong_lane : Above → ℕ → Bool
is_wrong_lane above lane = not (lane == above.lane_count) || (has_ctl_in_no_lane above || not (length above.absent == 0))

-- the version once more, `depth`, `tramps`, `ring` or `tracing off` once more, a CPU that isn't the next one, a lane that is wrong, a wait of
-- control, a load or an unload in a script with lanes, an act before any task
abbrev pub is_out_of_place : Above → LineForm → Bool
is_out_of_place above (version number) = true
is_out_of_place above (depth frames) = is_some above.frames
is_out_of_place above (tramps slots) = is_some above.tramps
is_out_of_place above (ring entries) = is_some above.ring
is_out_of_place above tracing_off = not above.tracing
is_out_of_place above (new_cpu cpu quantum) = not (cpu == length above.quanta)
is_out_of_place above (new_lane lane) = is_wrong_lane above lane
is_out_of_place above (until pid n) = not (above.lane_count == 0)
is_out_of_place above (load owner) = not (above.lane_count == 0)
is_out_of_place above (unload owner) = not (above.lane_count == 0)
is_out_of_place above form = is_act form && (length above.tasks == 0)

-- the line comes after one of a higher rank, or is out of place
abbrev pub is_misplaced : Above → LineForm → Bool
is_misplaced above form = nat_lt (rank_of form above.rank) above.rank || is_out_of_place above form

-- ## limit

-- a name that is too long
abbrev pub is_long : Word → Bool
is_long name = nat_lt NAME_BYTES (length name)

-- a name that is too long, if there is one
abbrev pub is_long_or_none : Option Word → Bool
is_long_or_none None = false
is_long_or_none (Some name) = is_long name

-- the function that a user calls
abbrev pub act_name : UserAct → Word
act_name (calls name) = name
act_name (irqs name) = name

-- a name of the user's line is too long
abbrev pub has_long_name : UserLine → Bool
has_long_name u = is_long u.name || (is_long_or_none u.ipmodify || is_long_or_none (option_map act_name u.act))

-- a number that doesn't fit in 32 bits
abbrev pub is_big : ℕ → Bool
is_big n = nat_le (2 ^ 32) n

-- a number of acts or commands that nobody can wait for
abbrev pub is_bad_count : ℕ → Bool
is_bad_count n = (n == 0) || is_big n

-- a pid that no task can have
abbrev pub is_bad_pid : ℕ → Bool
is_bad_pid pid = (pid == 0) || nat_lt PID pid

-- a number of frames that no shadow stack can have
abbrev pub is_bad_depth : ℕ → Bool
is_bad_depth frames = (frames == 0) || nat_lt FRAMES frames

-- a number of entries that no ring can have
abbrev pub is_bad_ring : ℕ → Bool
is_bad_ring entries = (entries == 0) || nat_lt RING entries

-- a quantum that no CPU can have
abbrev pub is_bad_quantum : ℕ → Bool
is_bad_quantum quantum = (quantum == 0) || nat_lt QUANTUM quantum

-- one more act is too many
abbrev pub is_full_of_acts : Above → Bool
is_full_of_acts above = nat_le ACTS above.acts

-- with one more call, the calls could make more items than a history may have
abbrev pub has_no_room : Above → Bool
has_no_room above = nat_lt ITEMS (call_bound_of above.users (limits_of above.version).levels * (above.calls + 1))

-- one more call is too many: of the acts, of the open calls of the task, or for the items that the calls could make
abbrev pub is_full_of_calls : Above → Bool
is_full_of_calls above = is_full_of_acts above || (nat_le LEVELS (open_calls above.levels) || has_no_room above)

-- one more command is too many
abbrev pub is_full_of_commands : Above → Bool
is_full_of_commands above = nat_le COMMANDS (command_count above)

-- a name or a number of the line is outside its limits, or there is one too many of what it declares; the steps of a schedule and the commands
-- of a load or an unload are counted below
abbrev pub is_past_limit : Above → LineForm → Bool
is_past_limit above (func name owner) = is_long name || (is_long_or_none owner || nat_le (limits_of above.version).funcs (length above.functions))
is_past_limit above (depth frames) = is_bad_depth frames
is_past_limit above (tramps slots) = nat_lt (limits_of above.version).tramps slots
is_past_limit above (absent owner) = is_long owner
is_past_limit above (ring entries) = is_bad_ring entries
is_past_limit above (trigger text) = nat_le TRIGGERS (length above.triggers)
is_past_limit above (user u) = has_long_name u || nat_le (limits_of above.version).users (length above.users)
is_past_limit above (new_cpu cpu quantum) = is_bad_quantum quantum || nat_le CPUS (length above.quanta)
is_past_limit above (new_task pid cpu) = is_bad_pid pid || (is_big cpu || nat_le TASKS (length above.tasks))
is_past_limit above (new_lane lane) = nat_le LANES above.lane_count
is_past_limit above (call name) = is_long name || is_full_of_calls above
is_past_limit above ret = is_full_of_acts above
is_past_limit above (raise to) = is_full_of_acts above
is_past_limit above lower = is_full_of_acts above
is_past_limit above (after n) = is_bad_count n || is_full_of_acts above
is_past_limit above (register name) = is_long name || is_full_of_commands above
is_past_limit above (unregister name) = is_long name || is_full_of_commands above
is_past_limit above (write half append name text) = is_long name || is_full_of_commands above
is_past_limit above (pids excluded list) = list_any is_bad_pid list || is_full_of_commands above
is_past_limit above (enable name) = is_long name || is_full_of_commands above
is_past_limit above (disable name) = is_long name || is_full_of_commands above
is_past_limit above (max_depth n) = nat_lt GRAPH_DEPTH n || is_full_of_commands above
is_past_limit above (until pid n) = is_bad_pid pid || (is_bad_count n || nat_le UNTILS above.waits)
is_past_limit above (load owner) = is_long owner || is_full_of_commands above
is_past_limit above (unload owner) = is_long owner || is_full_of_commands above
is_past_limit above _ = false

-- ## duplicate

-- the names of the functions, by number
abbrev pub function_names : Above → List Word
function_names above = map (λ f. f.name) above.functions

-- the names of the users, by number
abbrev pub user_names : Above → List Word
user_names above = map (λ u. u.name) above.users

-- the pids of the tasks, by number
abbrev pub pids_of : Above → List ℕ
pids_of above = map (λ task. task.pid) above.tasks

-- the name is one of these
abbrev pub is_among : List Word → Word → Bool
is_among names name = is_some (position (bytes_eq name) names)

-- a task has this pid
abbrev pub has_pid : Above → ℕ → Bool
has_pid above pid = is_some (position (λ p. p == pid) (pids_of above))

-- the number of the module of this name, if there is one
abbrev pub module_named : Above → Word → Option ℕ
module_named above name = number_among (modules_in above.functions) (Some name)

-- the module is absent already
abbrev pub is_absent : Above → Option ℕ → Bool
is_absent above None = false
is_absent above (Some m) = list_any (λ other. other == m) above.absent

-- the function, the absent module, the user or the pid that the line declares is declared above
abbrev pub is_duplicate : Above → LineForm → Bool
is_duplicate above (func name owner) = is_among (function_names above) name
is_duplicate above (absent owner) = is_absent above (module_named above owner)
is_duplicate above (user u) = is_among (user_names above) u.name
is_duplicate above (new_task pid cpu) = has_pid above pid
is_duplicate above _ = false

-- ## unknown, pattern: what the line declares, once what it names is looked up and its filter or trigger text is read

-- what is looked up, if it is there
abbrev pub known : {X : Type 0} → Option X → Result X Cause
known None = Err Unknown
known (Some x) = Ok x

-- what is made of that
abbrev pub made : {X Y : Type 0} → (X → Y) → Result X Cause → Result Y Cause
made f (Ok x) = Ok (f x)
made f (Err cause) = Err cause

-- the function of this number
abbrev pub function_at : ℕ → FuncNo
function_at n = record { 0 = n }

-- the number of the function of this name
abbrev pub function_in : Above → Word → Result FuncNo Cause
function_in above name = made function_at (known (position (bytes_eq name) (function_names above)))

-- the number of the function that is named, if one is
abbrev pub function_or_none : Above → Option Word → Result (Option FuncNo) Cause
function_or_none above None = Ok None
function_or_none above (Some name) = made (λ f. Some f) (function_in above name)

-- the number of the module of this name
abbrev pub module_in : Above → Word → Result ℕ Cause
module_in above name = known (module_named above name)

-- the number of the user of this name
abbrev pub user_in : Above → Word → Result ℕ Cause
user_in above name = known (position (bytes_eq name) (user_names above))

-- the number of the task with this pid
abbrev pub task_in : Above → ℕ → Result ℕ Cause
task_in above pid = known (position (λ p. p == pid) (pids_of above))

-- a CPU, by its number
abbrev pub cpu_in : Above → ℕ → Result ℕ Cause
cpu_in above cpu = if nat_le (length above.quanta) cpu then Err Unknown else Ok cpu

-- what a user does at its callbacks, if it does anything
abbrev pub act_in : Above → Option UserAct → Result (Option OwnAct) Cause
act_in above None = Ok None
act_in above (Some (calls name)) = made (λ f. Some (CallIn f)) (function_in above name)
act_in above (Some (irqs name)) = made (λ f. Some (IrqIn f)) (function_in above name)

-- the user of a line that names this function and does this
abbrev pub spec_with : UserLine → Result (Option FuncNo) Cause → Result (Option OwnAct) Cause → Result Spec Cause
spec_with u (Err cause) act = Err cause
spec_with u (Ok ipmodify) (Err cause) = Err cause
spec_with u (Ok ipmodify) (Ok act) = Ok (record { name = u.name; kind = u.kind; regs = u.regs; ipmodify = ipmodify; pid = u.pid; act = act })

-- the user that its line declares
abbrev pub spec_in : Above → UserLine → Result Spec Cause
spec_in above u = spec_with u (function_or_none above u.ipmodify) (act_in above u.act)

-- the edit of a filter text
abbrev pub edit_in : Above → Bool → Word → Result Edit Cause
edit_in above append text = if is_some (first_cause (length above.functions) append text) then Err Pattern else Ok (edit_of above.functions append text)

-- the trigger of a text
abbrev pub trigger_in : Above → Word → Result Trigger Cause
trigger_in above text = if is_some (trigger_cause text) then Err Pattern else Ok (trigger_of above.functions text)

-- a write to one of a user's two sets
abbrev pub write_to : Half → ℕ → Edit → Command
write_to OfFilter u edit = Filter u edit
write_to OfNotrace u edit = Notrace u edit

-- the same, if there is the user and the text isn't refused
abbrev pub write_with : Half → Result ℕ Cause → Result Edit Cause → Result Command Cause
write_with half (Err cause) edit = Err cause
write_with half (Ok u) (Err cause) = Err cause
write_with half (Ok u) (Ok edit) = Ok (write_to half u edit)

-- no task has this pid
abbrev pub has_no_pid : Above → ℕ → Bool
has_no_pid above pid = not (has_pid above pid)

-- a mark for each task, true if its pid is in the list
abbrev pub marks_of : Above → List ℕ → Marks
marks_of above list = map (λ task. list_any (λ pid. pid == task.pid) list) above.tasks

-- only the marked tasks are traced, or if they are excluded all others
abbrev pub pid_command : Bool → Marks → Command
pid_command excluded marks = if excluded then NoPid marks else Pid marks

-- the same, if each pid is that of a task
abbrev pub pids_in : Above → Bool → List ℕ → Result Command Cause
pids_in above excluded list = if list_any (has_no_pid above) list then Err Unknown else Ok (pid_command excluded (marks_of above list))

-- one more command
abbrev pub a_command : Command → Declaration
a_command command = a_ctl (Run (Plain command))

-- the turns of these items, if there aren't too many steps with them, and each CPU is there
abbrev pub turns_in : Above → List SchedItem → Result Declaration Cause
turns_in above items =
    if is_past_sched_limit (length above.quanta) above.steps items then Err Limit
    else (if has_unknown (length above.quanta) items then Err Unknown
    else Ok (more_turns (map turn_from items) (above.steps + sum_by (steps_of (length above.quanta)) items)))

-- what a line of this form declares
abbrev pub named : Above → LineForm → Result Declaration Cause
named above skip = Ok nothing
named above (version number) = Ok (a_version number)
named above (func name owner) = Ok (a_function (record { name = name; owner = owner }))
named above (depth frames) = Ok (some_frames frames)
named above (tramps slots) = Ok (some_slots slots)
named above (absent owner) = made an_absence (module_in above owner)
named above (ring entries) = Ok (some_entries entries)
named above tracing_off = Ok no_tracing
named above (trigger text) = made a_trigger (trigger_in above text)
named above (user u) = made a_user (spec_in above u)
named above (new_cpu cpu quantum) = Ok (a_cpu quantum)
named above (new_task pid cpu) = made (a_task pid) (cpu_in above cpu)
named above (new_lane lane) = Ok a_lane
named above (call name) = made (λ f. an_act (Call f)) (function_in above name)
named above ret = Ok (an_act Ret)
named above (raise to) = Ok (an_act (Raise to))
named above lower = Ok (an_act Lower)
named above (after n) = Ok (an_act (After n))
named above (register name) = made (λ u. a_command (Register u)) (user_in above name)
named above (unregister name) = made (λ u. a_command (Unregister u)) (user_in above name)
named above (write half append name text) = made a_command (write_with half (user_in above name) (edit_in above append text))
named above (pids excluded list) = made a_command (pids_in above excluded list)
named above (enable name) = made (λ u. a_command (Enable u)) (user_in above name)
named above (disable name) = made (λ u. a_command (Disable u)) (user_in above name)
named above (max_depth n) = Ok (a_command (MaxDepth n))
named above (until pid n) = made (λ task. a_ctl (Until task n)) (task_in above pid)
named above (load owner) = made (λ m. a_ctl (Run (Load m))) (module_in above owner)
named above (unload owner) = made (λ m. a_ctl (Run (Unload m))) (module_in above owner)
named above (sched items) = turns_in above items

-- ## unbalanced

-- a `ret` without an open call in the present context; an interrupt that isn't above that context; an `iret` without a
-- raised context, or with an open call in it
abbrev pub is_unmatched : Levels → TaskAct → Bool
is_unmatched l Ret = open_here l == 0
is_unmatched l (Raise to) = nat_le (rank to) (rank (present l))
is_unmatched l Lower = not (is_raised l) || not (open_here l == 0)
is_unmatched l _ = false

-- what the next line says of the act above it, if it is of this form, and what the lines below it say
abbrev pub is_last_by : Option LineForm → Bool → Bool
is_last_by (Some (new_task pid cpu)) below = true
is_last_by (Some form) below = not (is_act form) && below
is_last_by None below = below

-- no act of the same task comes below: the next line that has the form of an act or a task is a task's, or there is none
abbrev pub is_last : List Line → Bool
is_last [] = true
is_last (line ∷ below) = is_last_by (line_form line.bytes) (is_last below)

-- an act that has no match, or the last of a task after which a call is open or a context raised
abbrev pub is_unbalanced : Levels → Declaration → List Line → Bool
is_unbalanced l (an_act act) below = is_unmatched l act || (is_unfinished (levels_after l act) && is_last below)
is_unbalanced l _ below = false

-- ## what a line declares, or its first cause

-- a line of this rank that declares this, if it is balanced
abbrev pub balanced : Above → ℕ → Result Declaration Cause → List Line → Result Resolved Cause
balanced above rank (Err cause) below = Err cause
balanced above rank (Ok what) below = if is_unbalanced above.levels what below then Err Unbalanced else Ok (record { rank = rank; what = what })

-- a line of this form that isn't line 1
abbrev pub resolved : Above → LineForm → List Line → Result Resolved Cause
resolved above form below =
    if is_misplaced above form then Err Syntax
    else (if is_past_limit above form then Err Limit
    else (if is_duplicate above form then Err Duplicate
    else balanced above (rank_of form above.rank) (named above form) below))

-- line 1 says the version
abbrev pub first_line : Option LineForm → Result Resolved Cause
first_line (Some (version number)) = Ok (record { rank = 0; what = a_version number })
first_line _ = Err Version

-- each other line has a form
abbrev pub next_line : Above → List Line → Option LineForm → Result Resolved Cause
next_line above below None = Err Syntax
next_line above below (Some form) = resolved above form below

-- a line, which a line feed ends
abbrev pub resolved_line : Above → Bool → Option LineForm → List Line → Result Resolved Cause
resolved_line above ended form below =
    if not ended then Err Syntax
    else (if above.lines == 0 then first_line form
    else next_line above below form)

-- ## the commands of a line

-- with this line there are too many commands
abbrev pub has_too_many_commands : Above → Declaration → Bool
has_too_many_commands above (a_ctl ctl) = nat_lt COMMANDS (command_count (with_ctl above ctl))
has_too_many_commands above what = false

-- a line that may stand here, if there aren't too many commands with it
abbrev pub carried_out : Above → Result Resolved Cause → Result Resolved Cause
carried_out above (Err cause) = Err cause
carried_out above (Ok line) = if has_too_many_commands above line.what then Err Limit else Ok line

-- ## the first cause

-- the cause, if this is one
abbrev pub cause_in : {X : Type 0} → Result X Cause → Option Cause
cause_in (Ok x) = None
cause_in (Err cause) = Some cause

-- the first cause of a line, of which these are the lines below
unfoldable pub cause_of : Above → Line → List Line → Option Cause
cause_of above line below = cause_in (carried_out above (resolved_line above line.ended (line_form line.bytes) below))
