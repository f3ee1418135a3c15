-- Which names a pattern matches.
use Rattle.std.specs.Prelude.{◌≡◌, ◌&&◌, ◌||◌, ℕ, Bool, true, false, not, IsTrue, List, [], ◌∷◌, ◌++◌, if◌then◌else◌, nat_le, nat_eq}
use Rattle.std.specs.List.{list_any}
use Rattle.glob_filter.specs.Items.{Item, byte, any, star, class}

-- the byte is in the range; a range whose last byte is below its first has no bytes
abbrev pub in_range : ℕ → ℕ × ℕ → Bool
in_range b range = nat_le range.0 b && nat_le b range.1

-- the item matches this byte and no other bytes; `*` doesn't count as such an item
abbrev pub takes : Item → ℕ → Bool
takes (byte a) b = nat_eq b a
takes any b = true
takes star b = false
takes (class negated ranges) b = if negated then not (list_any (in_range b) ranges) else list_any (in_range b) ranges

-- the name can be cut into pieces that the items match in order: `*` any piece, each other item one byte
abbrev pub Fits : List Item → List ℕ → Type 0
Fits [] name = name ≡ []
Fits (star ∷ items) name = (front back : List ℕ) × (name ≡ front ++ back) × Fits items back
Fits (item ∷ items) name = (b : ℕ) × (rest : List ℕ) × (name ≡ b ∷ rest) × IsTrue (takes item b) × Fits items rest

-- the test passes at the name, or at what is left of it after some of its bytes
abbrev pub some_rest : (List ℕ → Bool) → List ℕ → Bool
some_rest test [] = test []
some_rest test (b ∷ name) = test (b ∷ name) || some_rest test name

-- whether the items match the name, as a test that computes: it passes exactly if the name `Fits`
abbrev pub is_fit : List Item → List ℕ → Bool
is_fit [] [] = true
is_fit [] (b ∷ name) = false
is_fit (star ∷ items) name = some_rest (is_fit items) name
is_fit (item ∷ items) [] = false
is_fit (item ∷ items) (b ∷ name) = takes item b && is_fit items name
