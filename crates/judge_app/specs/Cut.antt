-- How an input is cut at its line `log`.
use Rattle.std.specs.Prelude.{ℕ, ◌≡◌, ◌+◌, ◌==◌, Bool, List, [], ◌++◌, ◌⊎◌, count_by, codes}

-- a line feed
abbrev pub is_feed : ℕ → Bool
is_feed b = b == 10

-- a text that a line may follow: it has nothing, or ends with a line feed
abbrev pub EndsLine : List ℕ → Type 0
EndsLine text = (text ≡ []) ⊎ ((front : List ℕ) × (text ≡ front ++ codes "\n"))

-- the line between the script and the log
abbrev pub log_line : List ℕ
log_line = codes "log\n"

-- the text doesn't begin with it
abbrev pub IsNoLog : List ℕ → Type 0
IsNoLog text = (log : List ℕ) → text ≡ log_line ++ log → ⊥

-- a line `log` stands in the input after this text
abbrev pub IsAfter : List ℕ → List ℕ → List ℕ → Type 0
IsAfter before rest input = (input ≡ before ++ (log_line ++ rest)) × EndsLine before

-- the input has such a line, and this is the first: the script stands above it, and the log below it, whose first line has this number, from 1
pub record IsCut (input script log : List ℕ) (first : ℕ) : Type 0 where
  pub here : IsAfter script log input
  pub earliest : (before rest : List ℕ) → IsAfter before rest script → ⊥
  pub number : first ≡ count_by is_feed script + 2

-- the input has no such line, and this is the number of the line that would come after its last
pub record IsUncut (input : List ℕ) (next : ℕ) : Type 0 where
  pub none : (before rest : List ℕ) → IsAfter before rest input → ⊥
  pub number : next ≡ count_by is_feed input + 1
