-- What control's lines come to in the job: the commands that carry out commands, loads and unloads, and the waits. The order of the
-- commands of several lanes isn't known, so in a script with lanes, which has no modules that come and go, the lines stay as they are.
use Rattle.std.specs.Prelude.{ℕ, zero, suc, ◌+◌, ◌==◌, true, false, List, [], ◌∷◌, ◌++◌, length, map, get_or, if◌then◌else◌}
use Rattle.ft_base.specs.declared.item.Answer.{Answer}
use Rattle.ft_base.specs.declared.task.TaskAct.{TaskAct}
use Rattle.ft_base.specs.declared.task.TaskAct.TheVariants.{After}
use Rattle.ft_base.specs.Job.{Command, Ctl, Run as RunCommand, Until as UntilActs, ModuleRow, commands_in}
use Rattle.ft_desk.specs.Declarations.{Declared, bare}
use Rattle.module_table.specs.Lines.{Line as ModuleLine, Plain, Load, Unload, Between, at_first, opening_of, answer_to, commands_for, after_line}
use Rattle.ft_script.specs.Above.{Above, LinedCtl, ScriptCtl, Run, Until, slots_of}

-- what is known after these lines; the lines of control that they come to; the loads and unloads; and how many commands there are
-- after each command, load and unload
pub record Expansion : Type 0 where
  pub known : Between
  pub ctls : List Ctl
  pub rows : List ModuleRow
  pub ends : List ℕ

-- ## before the first line

-- what a desk keeps of what is declared
abbrev pub declarations_of : Above → Declared
declarations_of above = record {
  specs = map bare above.users;
  funcs = length above.functions;
  tasks = length above.tasks;
  tramps = slots_of above;
}

-- these commands as lines of control
abbrev pub runs_of : List Command → List Ctl
runs_of commands = map RunCommand commands

-- with an absent module control opens with a command for each user, which hides the functions of the absent modules from it
abbrev pub opened : Above → Expansion
opened above =
    let known = at_first (declarations_of above) above.functions above.absent in
    record { known = known; ctls = runs_of (opening_of known.declared known.first); rows = []; ends = [] }

-- ## one line more

-- the row of a line with this answer and commands of these numbers, if it loads or unloads a module
abbrev pub rows_with : ModuleLine → Answer → ℕ → ℕ → List ModuleRow
rows_with (Plain command) answer first last = []
rows_with (Load m) answer first last = record { load = true; owner = m; answer = answer; first = first; last = last } ∷ []
rows_with (Unload m) answer first last = record { load = false; owner = m; answer = answer; first = first; last = last } ∷ []

-- the row of a line, if it loads or unloads a module
abbrev pub rows_for : Between → ModuleLine → List ModuleRow
rows_for known line = rows_with line (answer_to known line) (suc known.commands) (known.commands + length (commands_for known line))

-- with a command, a load or an unload
abbrev pub with_line : Expansion → ModuleLine → Expansion
with_line x line = record {
  known = after_line x.known line;
  ctls = x.ctls ++ runs_of (commands_for x.known line);
  rows = x.rows ++ rows_for x.known line;
  ends = x.ends ++ (after_line x.known line).commands ∷ [];
}

-- with a line of control
abbrev pub expanded : Expansion → ScriptCtl → Expansion
expanded x (Run line) = with_line x line
expanded x (Until task acts) = record x { ctls = x.ctls ++ UntilActs task acts ∷ [] }

-- with these lines, in order
abbrev pub expanded_all : Expansion → List LinedCtl → Expansion
expanded_all x [] = x
expanded_all x (c ∷ ctls) = expanded_all (expanded x c.ctl) ctls

-- ## all lines

-- a line of a script with lanes, as it is; there is no load or unload among them
abbrev pub line_as_it_is : ScriptCtl → List Ctl
line_as_it_is (Run (Plain command)) = RunCommand command ∷ []
line_as_it_is (Run _) = []
line_as_it_is (Until task acts) = UntilActs task acts ∷ []

-- these lines, as they are
abbrev pub lines_as_they_are : List LinedCtl → List Ctl
lines_as_they_are [] = []
lines_as_they_are (c ∷ ctls) = line_as_it_is c.ctl ++ lines_as_they_are ctls

-- what the lines of control come to
abbrev pub expansion_of : Above → Expansion
expansion_of above =
    if above.lane_count == 0 then expanded_all (opened above) above.ctls
    else record (opened above) { ctls = lines_as_they_are above.ctls }

-- how many commands they come to, those with which control opens among them
abbrev pub command_count : Above → ℕ
command_count above = length (commands_in (expansion_of above).ctls)

-- ## waits for commands

-- how many commands there are after the first n commands, loads and unloads of a script; n itself if they stay as they are
abbrev pub commands_by : List ℕ → ℕ → ℕ
commands_by ends zero = zero
commands_by ends (suc n) = get_or ends n (suc n)

-- an act in the job: a wait for commands, loads and unloads is one for the commands that carry them out
abbrev pub act_in_job : List ℕ → TaskAct → TaskAct
act_in_job ends (After n) = After (commands_by ends n)
act_in_job ends act = act
