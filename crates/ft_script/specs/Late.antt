-- Modules whose commands are planned late.
use Rattle.std.specs.Prelude.{◌≡◌, ℕ, ◌+◌, ◌<◌, ◌^◌, List, [], map, length, Option, Some, None}
use Rattle.std.specs.List.{AllByRecursion as Each}
use Rattle.ft_base.specs.declared.item.Answer.{Answer}
use Rattle.ft_base.specs.Job.{ModuleRow}
use Rattle.ft_desk.specs.declared.command.Command.{Command}
use Rattle.ft_desk.specs.Commands.{command_of, IsInShape}
use Rattle.module_table.specs.Lines.{Line, Plain, Between, answer_to, after_lines}
use Rattle.ft_script.specs.declared.late.LateModules.TheInside.{Inside}
use Rattle.ft_script.specs.Expansion.{rows_with}

-- these commands as lines of control of a job with this many tasks
abbrev pub lines_with : ℕ → List Command → List Line
lines_with tasks commands = map (λ c. Plain (command_of tasks c)) commands

-- what is known once the commands that are kept are planned
abbrev pub known : Inside → Between
known m = after_lines m.modules (lines_with m.modules.declared.tasks m.later.items)

-- each of n more commands can be planned
abbrev pub HasRoom : Between → ℕ → Type 0
HasRoom b n = (i : ℕ) → i < n → b.commands + i + length b.declared.specs + 1 < 2 ^ 32

-- the commands that are kept name what is declared, and can be planned
pub record LateInvariant (m : Inside) : Type 0 where
  pub numbers : Each (IsInShape m.modules.declared) m.later.items
  pub room : HasRoom m.modules (length m.later.items)

-- the rows of a line that has this answer, or none
abbrev pub rows_told : Line → Option Answer → ℕ → ℕ → List ModuleRow
rows_told line None first last = []
rows_told line (Some answer) first last = rows_with line answer first last

-- the answer of a line is told if there is a row of it
abbrev pub IsRowAnswer : Between → Line → Option Answer → Type 0
IsRowAnswer b line answer = (first last : ℕ) → rows_told line answer first last ≡ rows_with line (answer_to b line) first last
