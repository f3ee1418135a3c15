-- Lines and commands as they are made.
use Rattle.std.specs.Prelude.{◌≡◌, ℕ, suc, Bool, false, List, [], ◌∷◌, ◌++◌, map, replicate, Option, Some, None, if◌then◌else◌}
use Rattle.std.specs.List.{list_any, AllByRecursion as Each}
use Rattle.std.specs.Str.{bytes_eq}
use Rattle.ft_base.specs.Marks.{Marks, empty, is_empty, union}
use Rattle.ft_base.specs.Job.{Command as PlainCommand}
use Rattle.site_set.specs.Edits.{plain_edit}
use Rattle.ft_desk.specs.declared.command.Command.{Command}
use Rattle.ft_desk.specs.declared.command.Command.TheVariants.{Notrace, MaxDepth}
use Rattle.ft_desk.specs.Commands.{command_of, IsInShape}
use Rattle.ft_desk.specs.Declarations.{Declared}
use Rattle.module_table.specs.declared.line.ModLine.{ModLine}
use Rattle.module_table.specs.declared.line.ModLine.TheVariants.{Plain as PlainLine, Load as LoadLine, Unload as UnloadLine}
use Rattle.module_table.specs.Lines.{Line, Plain, Load, Unload, selects}

-- the line of a job with this many tasks
abbrev pub line_of : ℕ → ModLine → Line
line_of tasks (PlainLine c) = Plain (command_of tasks c)
line_of tasks (LoadLine m) = Load m
line_of tasks (UnloadLine m) = Unload m

-- a name that is noted: it stays where it is, or goes last
abbrev pub noted : List (List ℕ) → List ℕ → List (List ℕ)
noted names name = if list_any (bytes_eq name) names then names else names ++ name ∷ []

-- these commands were added at the end of a list. Their users and sets are declared
pub record Appends (d : Declared) (old new : List Command) (plain : List PlainCommand) : Type 0 where
  pub added : List Command
  pub items : new ≡ old ++ added
  pub commands : map (command_of d.tasks) added ≡ plain
  pub declared : Each (IsInShape d) added

-- the mask of a user, as a command
abbrev pub mask_command : ℕ → Marks → Marks → Command
mask_command u own hidden =
    let set = union own hidden in
    Notrace (record { 0 = u }) (record { append = false; remove = false; clear = is_empty set; set = set })

-- the masks of users with these own sets
abbrev pub mask_commands : ℕ → List Marks → Marks → List Command
mask_commands u [] hidden = []
mask_commands u (own ∷ rest) hidden = mask_command u own hidden ∷ mask_commands (suc u) rest hidden

-- the masks with which control opens, for so many users and functions
abbrev pub opening_commands : ℕ → ℕ → Option Marks → List Command
opening_commands users funcs None = []
opening_commands users funcs (Some hidden) = mask_commands 0 (replicate users (empty funcs)) hidden

-- the command is an edit of a notrace set that selects something or clears the set
abbrev pub is_masking : Command → Bool
is_masking (Notrace u e) = selects (plain_edit e)
is_masking c = false

-- the graph depth after a command
abbrev pub depth_after : ℕ → Command → ℕ
depth_after depth (MaxDepth new) = new
depth_after depth c = depth
