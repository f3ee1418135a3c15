-- How words of 64 bits keep marks.
use Rattle.std.specs.Prelude.{◌≡◌, ℕ, ◌+◌, ◌/◌, ◌%◌, ◌==◌, ◌≤◌, ◌<◌, ◌^◌, Bool, false, List, map, length, slice_index}
use Rattle.std.specs.List.{range_with_len}
use Rattle.std.specs.Int.{bit_at}
use Rattle.ft_base.specs.Marks.{Marks}

-- whether the bit f of the words is set
abbrev pub has_bit : List ℕ → ℕ → Bool
has_bit words f = bit_at (slice_index words (f / 64)) (f % 64) == 1

-- the bits below the size, as marks
abbrev pub marks_of : ℕ → List ℕ → Marks
marks_of size words = map (has_bit words) (range_with_len 0 size)

-- z is the lowest bit of n that is set
pub record IsLowestBit (n z : ℕ) : Type 0 where
  pub below : z < 64
  pub set : bit_at n z ≡ 1
  pub clear : (i : ℕ) → i < z → bit_at n i ≡ 0

-- as many words as the size needs, and no bit set from the size on
pub record IsPacked (size : ℕ) (words : List ℕ) : Type 0 where
  pub small : size < 2 ^ 32
  pub count : length words ≡ (size + 63) / 64
  pub clear : (f : ℕ) → size ≤ f → has_bit words f ≡ false
