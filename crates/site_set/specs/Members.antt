-- The lowest bit of a word, and the lowest member of a set or of either of two, from a number on.
use Rattle.std.specs.Prelude.{◌≡◌, ℕ, ◌≤◌, ◌<◌, ◌||◌, true, false, length}
use Rattle.std.specs.Int.{bit_at}
use Rattle.ft_base.specs.Marks.{Marks, holds}

-- z is the lowest bit of the word that is set, of those from a place on
pub record IsNextBit (word from z : ℕ) : Type 0 where
  pub low : from ≤ z
  pub high : z < 64
  pub set : bit_at word z ≡ 1
  pub clear : (i : ℕ) → from ≤ i → i < z → bit_at word i ≡ 0

-- f is the lowest member of the set, of those from a number on
pub record IsNextMember (set : Marks) (from f : ℕ) : Type 0 where
  pub low : from ≤ f
  pub high : f < length set
  pub member : holds set f ≡ true
  pub least : (g : ℕ) → from ≤ g → g < f → holds set g ≡ false

-- f is the lowest number in either of two sets, of those from a number on
pub record IsNextOfTwo (one other : Marks) (from f : ℕ) : Type 0 where
  pub low : from ≤ f
  pub high : f < length one
  pub member : (holds one f || holds other f) ≡ true
  pub least : (g : ℕ) → from ≤ g → g < f → (holds one g || holds other g) ≡ false
