-- Which modules are loaded after how many commands, as it is known once all lines of a script are read.
use Rattle.std.specs.Prelude.{ℕ, Bool, not, ◌==◌, nat_le, List, [], ◌∷◌, filter, get_or, Option, None, if◌then◌else◌}
use Rattle.std.specs.List.{list_any}
use Rattle.module_coverage.specs.declared.change.Change.{Change}

-- the number of each function's module, if it lies in one; the modules that aren't loaded at first; and what loads and unloads
-- modules, in order
pub record ModulePlan : Type 0 where
  pub owners : List (Option ℕ)
  pub absent : List ℕ
  pub changes : List Change

-- the module in which a function lies, if it lies in one
abbrev pub owner_in : List (Option ℕ) → ℕ → Option ℕ
owner_in owners f = get_or owners f None

-- the change is one of this module
abbrev pub is_of : ℕ → Change → Bool
is_of m change = change.module == m

-- whether a module is loaded after k commands, if it was or wasn't before these changes, and they are its own
abbrev pub loaded_by : ℕ → Bool → List Change → Bool
loaded_by k was [] = was
loaded_by k was (change ∷ changes) = loaded_by k (if nat_le change.at k then change.load else was) changes

-- whether the module is loaded after k commands
abbrev pub is_loaded_in : ModulePlan → ℕ → ℕ → Bool
is_loaded_in plan m k = loaded_by k (not (list_any (λ other. other == m) plan.absent)) (filter (is_of m) plan.changes)
