-- What two sets of numbers have in common, and the words of a set.
use Rattle.std.specs.Prelude.{◌≡◌, ℕ, ◌+◌, ◌*◌, ◌<◌, ◌&&◌, true, false, [], ◌∷◌, Option, position, take, drop, if◌then◌else◌}
use Rattle.std.specs.List.{zip}
use Rattle.ft_base.specs.Marks.{Marks, holds}

-- the least number that is in both sets, if there is one
abbrev pub least_common : Marks → Marks → Option ℕ
least_common s t = position (λ p. p.0 && p.1) (zip s t)

-- the number whose bits are the marks, the first in bit 0
abbrev pub number_with_bits : Marks → ℕ
number_with_bits [] = 0
number_with_bits (b ∷ bs) = (if b then 1 else 0) + 2 * number_with_bits bs

-- the marks from 64 w to 64 w + 63 as one number, the lowest in bit 0
abbrev pub word_of : Marks → ℕ → ℕ
word_of s w = number_with_bits (take 64 (drop (64 * w) s))

-- no number is a member
abbrev pub IsEmpty : Marks → Type 0
IsEmpty s = (f : ℕ) → holds s f ≡ false

-- no number is in both sets
abbrev pub AreDisjoint : Marks → Marks → Type 0
AreDisjoint s t = (f : ℕ) → (holds s f && holds t f) ≡ false

-- f is in both sets, and no number below it is
pub record IsLeastCommon (s t : Marks) (f : ℕ) : Type 0 where
  pub first : holds s f ≡ true
  pub second : holds t f ≡ true
  pub least : (g : ℕ) → g < f → (holds s g && holds t g) ≡ false
