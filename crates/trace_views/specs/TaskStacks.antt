-- A stack for each task, the top first.
use Rattle.std.specs.Prelude.{ℕ, List, [], ◌∷◌, get_or}

-- the stack of a task, empty for a task that there isn't
abbrev pub stack_at : {A : Type 0} → List (List A) → ℕ → List A
stack_at stacks t = get_or stacks t []

-- the same with another top, if there is one
abbrev pub with_top : {A : Type 0} → A → List A → List A
with_top x [] = []
with_top x (top ∷ below) = x ∷ below
