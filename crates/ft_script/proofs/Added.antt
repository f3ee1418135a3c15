-- What is added to the lines of control that the program holds.
use Rattle.std.proofs.Common.{◌≡◌, ℕ, suc, ◌+◌, List, [], ◌∷◌, ◌++◌, length, map, Option, Some, None, refl, ap, ap₂, ◌∙◌}
use Rattle.ft_base.specs.declared.item.Answer.{Answer}
use Rattle.ft_base.specs.Job.{Command as PlainCommand, Ctl as PlainCtl, Run as PlainRun, ModuleRow}
use Rattle.ft_desk.specs.declared.command.Command.{Command}
use Rattle.ft_desk.specs.declared.command.Ctl.{Ctl}
use Rattle.ft_desk.specs.declared.command.Ctl.TheVariants.{Run}
use Rattle.ft_desk.specs.Commands.{command_of, ctl_of}
use Rattle.ft_desk.specs.Declarations.{Declared}
use Rattle.ft_desk.specs.Lines.{lines_of}
use Rattle.module_table.specs.declared.line.ModLine.{ModLine}
use Rattle.module_table.specs.declared.line.ModLine.TheVariants.{Plain, Load, Unload}
use Rattle.module_table.specs.Lines.{Between, answer_to, commands_for}
use Rattle.module_table.specs.Made.{line_of, Appends}
use Rattle.ft_script.specs.Expansion.{Expansion, runs_of, rows_with, rows_for}
use Rattle.ft_script.specs.Late.{rows_told, IsRowAnswer}

-- commands that are added as lines
pub lines-runs : (tasks : ℕ) (old : List Ctl) (cs : List Command) → lines_of tasks (old ++ map Run cs) ≡ lines_of tasks old ++ runs_of (map (command_of tasks) cs)
lines-runs tasks [] [] = refl
lines-runs tasks [] (c ∷ cs) = ap (λ (xs : List PlainCtl). PlainRun (command_of tasks c) ∷ xs) (lines-runs tasks [] cs)
lines-runs tasks (o ∷ old) cs = ap (λ (xs : List PlainCtl). ctl_of tasks o ∷ xs) (lines-runs tasks old cs)

-- where the commands are those of a line, the lines are what it comes to
pub added-lines : (d : Declared) (before cs : List Command) (plain : List PlainCommand) (old new : List Ctl) → before ≡ [] → Appends d before cs plain
    → ((tasks : ℕ) → lines_of tasks new ≡ lines_of tasks old ++ runs_of (map (command_of tasks) cs)) → lines_of d.tasks new ≡ lines_of d.tasks old ++ runs_of plain
added-lines d before cs plain old new none added have =
    have d.tasks ∙ ap (λ (xs : List PlainCommand). lines_of d.tasks old ++ runs_of xs)
    (ap (map (command_of d.tasks)) (added.items ∙ ap (λ (xs : List Command). xs ++ added.added) none) ∙ added.commands)

-- the number of tasks makes no difference to the row of a line
rows-tasks : (tasks : ℕ) (line : ModLine) (answer : Answer) (first last : ℕ) → rows_with (line_of 0 line) answer first last ≡ rows_with (line_of tasks line) answer first last
rows-tasks tasks (Plain c) answer first last = refl
rows-tasks tasks (Load m) answer first last = refl
rows-tasks tasks (Unload m) answer first last = refl

told-tasks : (tasks : ℕ) (line : ModLine) (answer : Option Answer) (first last : ℕ) → rows_told (line_of 0 line) answer first last ≡ rows_told (line_of tasks line) answer first last
told-tasks tasks line None first last = refl
told-tasks tasks line (Some answer) first last = rows-tasks tasks line answer first last

-- the row that is added is the line's
pub row-told : (known : Between) (tasks : ℕ) (line : ModLine) (answer : Option Answer) (first last : ℕ) → IsRowAnswer known (line_of tasks line) answer → first ≡ suc known.commands
    → last ≡ known.commands + length (commands_for known (line_of tasks line)) → rows_told (line_of 0 line) answer first last ≡ rows_for known (line_of tasks line)
row-told known tasks line answer first last told e1 e2 =
    told-tasks tasks line answer first last ∙ told first last ∙ ap₂ (rows_with (line_of tasks line) (answer_to known (line_of tasks line))) e1 e2

-- what lines come to, by its parts
abbrev expansion : Between → List PlainCtl → List ModuleRow → List ℕ → Expansion
expansion known ctls rows ends = record { known = known; ctls = ctls; rows = rows; ends = ends }

pub same-expansion : (k k' : Between) (c c' : List PlainCtl) (r r' : List ModuleRow) (e e' : List ℕ) → k ≡ k' → c ≡ c' → r ≡ r' → e ≡ e'
    → expansion k c r e ≡ expansion k' c' r' e'
same-expansion k k' c c' r r' e e' e1 e2 e3 e4 =
    ap (λ (x : Between). expansion x c r e) e1 ∙ ap (λ (x : List PlainCtl). expansion k' x r e) e2 ∙ ap (λ (x : List ModuleRow). expansion k' c' x e) e3
    ∙ ap (λ (x : List ℕ). expansion k' c' r' x) e4
