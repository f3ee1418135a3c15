-- The next member of either of two sets of one size, from the next bit of the two words.
use Rattle.std.proofs.Common.{◌≡◌, ℕ, ◌+◌, ◌-◌, ◌*◌, ◌<◌, ◌≤◌, ◌==◌, ◌||◌, false, length, bit_or, sym, ap₂, ◌∙◌, arith}
use Rattle.std.specs.Int.{bit_at}
use Rattle.ft_base.specs.Marks.{Marks, holds, union}
use Rattle.ft_base.proofs.Bits.{or_test}
use Rattle.site_set.proofs.MarksLemmas.{length-union, holds-union}
use Rattle.site_set.specs.Members.{IsNextBit, IsNextOfTwo}
use Rattle.site_set.proofs.MemberLemmas.{next_member-some, no_member-word}

module _ (one other : Marks) (from w a b : ℕ) (same : length one ≡ length other)
    (first : (i : ℕ) → i < 64 → (bit_at a i == 1) ≡ holds one (64 * w + i))
    (second : (i : ℕ) → i < 64 → (bit_at b i == 1) ≡ holds other (64 * w + i))
    (below : (g : ℕ) → from ≤ g → g < 64 * w → (holds one g || holds other g) ≡ false) where
  -- a number is in the union if it is in either set
  either : (g : ℕ) → holds (union one other) g ≡ (holds one g || holds other g)
  either g = holds-union one other (omega (arith, same)) g

  -- a bit of the two words is a mark of the union
  bits : (i : ℕ) → i < 64 → (bit_at (bit_or a b) i == 1) ≡ holds (union one other) (64 * w + i)
  bits i h = or_test a b i ∙ ap₂ (λ x y. x || y) (first i h) (second i h) ∙ sym (either (64 * w + i))

  -- the next bit is that of the next member of either set
  pub next_of_two-some : (place bit : ℕ) → place ≡ from - w * 64 → from < 64 * w + 64 → IsNextBit (bit_or a b) place bit → IsNextOfTwo one other from (w * 64 + bit)
  next_of_two-some place bit is-at near next =
      let m = next_member-some (union one other) from w (bit_or a b) bits (λ g l h. either g ∙ below g l h) place bit is-at near next in
      record {
        low = m.low;
        high = omega (arith, m.high, length-union one other);
        member = sym (either (w * 64 + bit)) ∙ m.member;
        least = λ g l h. sym (either g) ∙ m.least g l h;
      }

  -- no bit, no member of either set
  pub none_of_two-word : (place : ℕ) → place ≡ from - w * 64 → ((i : ℕ) → place ≤ i → bit_at (bit_or a b) i ≡ 0) → (g : ℕ) → from ≤ g → g < 64 * (w + 1)
      → (holds one g || holds other g) ≡ false
  none_of_two-word place is-at none g l h =
      sym (either g) ∙ no_member-word (union one other) from w (bit_or a b) bits (λ k l h. either k ∙ below k l h) place is-at none g l h
