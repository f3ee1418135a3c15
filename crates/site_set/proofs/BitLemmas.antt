-- The bits of a word that is shifted to the right.
use Rattle.std.proofs.Common.{◌≡◌, ℕ, ◌+◌, ◌-◌, ◌/◌, ◌%◌, ◌^◌, ◌<◌, ◌≤◌, sym, ap, ◌∙◌, inl, inr, arith, w64}
use Rattle.std.specs.Int.{bit_at, trailing_zeros}
use Rattle.std.proofs.Math.Nat.{div-le_self}
use Rattle.std.proofs.lemmas.Bool.{cases_lt}
use Rattle.std.proofs.lemmas.Nat.{shr-shr}
use Rattle.std.proofs.lemmas.Nat.Bits.{bit_at-zero, bit_at_above, bit_at-trailing_zeros}
use Rattle.site_set.specs.Members.{IsNextBit}

-- a bit from k on is a bit of the word without its lowest k bits
bit_at-shifted : (n k i : ℕ) → k ≤ i → bit_at n i ≡ bit_at (n / 2 ^ k) (i - k)
bit_at-shifted n k i h =
    let same : i ≡ k + (i - k) = omega arith in
    ap (λ j. n / 2 ^ j % 2) same ∙ ap (λ m. m % 2) (sym (shr-shr n k (i - k)))

-- nothing is left of a word whose bits from a place on are all 0
pub next_bit-none : (word from : ℕ) → word / 2 ^ from ≡ 0 → (i : ℕ) → from ≤ i → bit_at word i ≡ 0
next_bit-none word from none i h = bit_at-shifted word from i h ∙ ap (λ n. bit_at n (i - from)) none ∙ bit_at-zero (i - from)

-- the lowest bit of what is left
pub next_bit-some : (word from : ℕ) → word < 2 ^ 64 → 0 < word / 2 ^ from → IsNextBit word from (from + trailing_zeros w64 (word / 2 ^ from))
next_bit-some word from fits some =
    let rest : ℕ = word / 2 ^ from in
    let within : rest < 2 ^ 64 = omega (arith, div-le_self word (2 ^ from)) in
    let t = bit_at-trailing_zeros w64 rest some within in
    let z : ℕ = trailing_zeros w64 rest in
    let back : from + z - from ≡ z = omega arith in
    let is : bit_at word (from + z) ≡ 1 = bit_at-shifted word from (from + z) (omega arith) ∙ ap (bit_at rest) back ∙ t.1 in
    record {
      low = omega arith;
      high = elim (cases_lt (from + z) 64) [
        | inl l ↦ l
        | inr h ↦ let none : bit_at word (from + z) ≡ 0 = bit_at_above word 64 (from + z) fits h in absurd (omega arith)
      ];
      set = is;
      clear = λ i low high. bit_at-shifted word from i low ∙ t.2 (i - from) (omega arith);
    }
