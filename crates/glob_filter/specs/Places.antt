-- Sets of places in words, and how they match a name byte by byte. A *place* says how many of the items but for stars are
-- still to be matched, so that it stands for the last of the items: place 0 for what comes after the last of those, and
-- place n + 1 for one of those and what place n stands for. If a `*` comes right before them, it belongs to the place.
use Rattle.std.specs.Prelude.{◌≡◌, ◌+◌, ◌*◌, ◌/◌, ◌%◌, ◌<◌, ◌==◌, ◌&&◌, ◌||◌, ℕ, zero, suc, Bool, true, false, List, [], ◌∷◌, slice_index}
use Rattle.std.specs.Int.{bit_at}
use Rattle.glob_filter.specs.Items.{Item}
use Rattle.glob_filter.specs.Matching.{is_fit}

-- whether the words have the bit of the place
abbrev pub has_place : List ℕ → ℕ → Bool
has_place words p = bit_at (slice_index words (p / 64)) (p % 64) == 1

-- whether the table, which has 256 words for 64 places, has the bit of the place and the byte
abbrev pub has_byte : List ℕ → ℕ → ℕ → Bool
has_byte table p b = bit_at (slice_index table (p / 64 * 256 + b)) (p % 64) == 1

-- whether the items of the place match the name: the first byte is taken by the place's item, or by the `*` of the place
abbrev pub matches_from : List ℕ → List ℕ → ℕ → List ℕ → Bool
matches_from takes stars zero [] = true
matches_from takes stars (suc p) [] = false
matches_from takes stars zero (b ∷ name) = has_place stars zero && matches_from takes stars zero name
matches_from takes stars (suc p) (b ∷ name) =
    (has_byte takes (suc p) b && matches_from takes stars p name) || (has_place stars (suc p) && matches_from takes stars (suc p) name)

-- the numbers are bytes
abbrev pub AreBytes : List ℕ → Type 0
AreBytes name = (k : ℕ) → slice_index name k < 256

-- the place stands for these items
abbrev pub StandsFor : List ℕ → List ℕ → ℕ → List Item → Type 0
StandsFor takes stars p items = (name : List ℕ) → AreBytes name → matches_from takes stars p name ≡ is_fit items name

-- the place stands for these items, and nothing is said of places above it yet
pub record IsFilled (takes stars : List ℕ) (p : ℕ) (items : List Item) : Type 0 where
  pub fits : StandsFor takes stars p items
  pub no_bytes : (q b : ℕ) → p < q → b < 256 → has_byte takes q b ≡ false
  pub no_stars : (q : ℕ) → p < q → has_place stars q ≡ false
