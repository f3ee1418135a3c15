-- A chain of words that name users.
use Rattle.std.specs.Prelude.{◌≡◌, ℕ, suc, List, [], ◌∷◌}

-- a word holds the name of the first of these users, the link of each names the next, and that of the last names nobody
abbrev pub Leads : (ℕ → ℕ) → ℕ → List ℕ → Type 0
Leads link w [] = w ≡ 0
Leads link w (u ∷ us) = (w ≡ suc u) × Leads link (link u) us
