-- Which modules are loaded after how many commands.
use Rattle.std.specs.Prelude.{ℕ, Bool, not, ◌||◌, ◌&&◌, ◌==◌, nat_le, List, [], ◌∷◌, if◌then◌else◌}
use Rattle.std.specs.List.{list_any}
use Rattle.ft_base.specs.Job.{LinePlan, ModuleRow}
use Rattle.ft_base.specs.Desk.{is_accepted}

-- the module isn't loaded at first
abbrev pub is_absent : LinePlan → ℕ → Bool
is_absent lines m = list_any (λ other. other == m) lines.absent

-- a line of the script names the module: it says that it is absent at first, or loads or unloads it
abbrev pub is_changing : LinePlan → ℕ → Bool
is_changing lines m = is_absent lines m || list_any (λ row. row.owner == m) lines.modules

-- the line is accepted, and changes whether this module is loaded
abbrev pub changes : ℕ → ModuleRow → Bool
changes m row = (row.owner == m) && is_accepted row.answer

-- whether the module is loaded after these lines, of which those count whose commands are all among the first k
abbrev pub loaded_after : ℕ → ℕ → Bool → List ModuleRow → Bool
loaded_after m k was [] = was
loaded_after m k was (row ∷ rows) = loaded_after m k (if changes m row && nat_le row.last k then row.load else was) rows

-- whether the module is loaded after k commands: it changes with the last command of an accepted line
abbrev pub is_loaded : LinePlan → ℕ → ℕ → Bool
is_loaded lines m k = loaded_after m k (not (is_absent lines m)) lines.modules
