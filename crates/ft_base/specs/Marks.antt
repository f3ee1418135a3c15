-- A set of numbers below a size, as a list of marks: the mark at n says whether n is in the set, and the size is the length.
use Rattle.std.specs.Prelude.{ℕ, zero, suc, Bool, false, not, ◌||◌, ◌&&◌, List, [], ◌∷◌, get_or}
use Rattle.std.specs.List.{list_any}

-- a set of numbers below a size: a mark for each number, true if it is in the set
abbrev pub Marks : Type 0
Marks = List Bool

-- whether a number is in the set
abbrev pub holds : Marks → ℕ → Bool
holds set n = get_or set n false

-- whether nothing is in the set
abbrev pub is_empty : Marks → Bool
is_empty set = not (list_any (λ b. b) set)

-- no number below the size
abbrev pub empty : ℕ → Marks
empty zero = []
empty (suc n) = false ∷ empty n

-- what is in one of two sets of one size, or in both
abbrev pub union : Marks → Marks → Marks
union [] ys = []
union (x ∷ xs) [] = x ∷ xs
union (x ∷ xs) (y ∷ ys) = (x || y) ∷ union xs ys

-- what is in the first of two sets of one size and not in the second
abbrev pub difference : Marks → Marks → Marks
difference [] ys = []
difference (x ∷ xs) [] = x ∷ xs
difference (x ∷ xs) (y ∷ ys) = (x && not y) ∷ difference xs ys
