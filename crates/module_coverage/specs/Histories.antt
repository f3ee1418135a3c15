-- What the program keeps of each module: its changes, of which that to a module that isn't loaded at first is one.
use Rattle.std.specs.Prelude.{◌≡◌, ◌<◌, ℕ, false, List, [], ◌∷◌, ◌++◌, length, map, set, filter, get_or, Some, Option, Vec}
use Rattle.std.specs.List.Sorted.{IsNonDecreasingBy}
use Rattle.module_coverage.specs.declared.change.Change.{Change}
use Rattle.module_coverage.specs.Plan.{ModulePlan, owner_in, is_of}

-- a module that isn't loaded at first is unloaded before the first command
abbrev pub absence : ℕ → Change
absence m = record { «module» = m; load = false; at = 0 }

-- the histories as lists
abbrev pub lists : {Z : Type 0} → List (Vec Change Z) → List (List Change)
lists histories = map (λ v. v.items) histories

-- one change more, in the history of its module if it has one
abbrev pub with_change : List (List Change) → Change → List (List Change)
with_change histories change = set histories change.module (get_or histories change.module [] ++ change ∷ [])

-- these are the owners of functions, and the histories of all modules in which functions lie
pub record Keeps (plan : ModulePlan) (owners : List (Option ℕ)) (histories : List (List Change)) : Type 0 where
  pub same : plan.owners ≡ owners
  pub within : (f m : ℕ) → owner_in owners f ≡ Some m → m < length histories
  pub changes : (m : ℕ) → m < length histories → get_or histories m [] ≡ filter (is_of m) (map absence plan.absent ++ plan.changes)
  pub ordered : IsNonDecreasingBy (λ change. change.at) plan.changes
