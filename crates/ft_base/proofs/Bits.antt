-- Bits of words as tests.
use Rattle.std.proofs.Common.{◌≡◌, ℕ, zero, suc, ◌<◌, ◌≤◌, ◌==◌, ◌&&◌, ◌||◌, min, max, false, List, length, get_or, not, ◌-◌, bit_or, bit_and, refl, ap, ◌∙◌, arith}
use Rattle.std.specs.Int.{bit_at}
use Rattle.std.proofs.lemmas.List.{get_or_past}
use Rattle.std.proofs.lemmas.Nat.Bits.{bit_at-zero, bit_at-lt, bit_at_and, bit_at_or}

tests_or : (a b : ℕ) → a < 2 → b < 2 → (max a b == 1) ≡ ((a == 1) || (b == 1))
tests_or zero zero h k = refl
tests_or zero (suc zero) h k = refl
tests_or (suc zero) zero h k = refl
tests_or (suc zero) (suc zero) h k = refl
tests_or zero (suc (suc b)) h k = absurd (omega arith)
tests_or (suc zero) (suc (suc b)) h k = absurd (omega arith)
tests_or (suc (suc a)) b h k = absurd (omega arith)

tests_and : (a b : ℕ) → a < 2 → b < 2 → (min a b == 1) ≡ ((a == 1) && (b == 1))
tests_and zero zero h k = refl
tests_and zero (suc zero) h k = refl
tests_and (suc zero) zero h k = refl
tests_and (suc zero) (suc zero) h k = refl
tests_and zero (suc (suc b)) h k = absurd (omega arith)
tests_and (suc zero) (suc (suc b)) h k = absurd (omega arith)
tests_and (suc (suc a)) b h k = absurd (omega arith)

pub tests_and_not : (a b : ℕ) → a < 2 → b < 2 → (min a (1 - b) == 1) ≡ ((a == 1) && not (b == 1))
tests_and_not zero zero h k = refl
tests_and_not zero (suc zero) h k = refl
tests_and_not (suc zero) zero h k = refl
tests_and_not (suc zero) (suc zero) h k = refl
tests_and_not zero (suc (suc b)) h k = absurd (omega arith)
tests_and_not (suc zero) (suc (suc b)) h k = absurd (omega arith)
tests_and_not (suc (suc a)) b h k = absurd (omega arith)

-- a bit of `a | b`
pub or_test : (a b i : ℕ) → (bit_at (bit_or a b) i == 1) ≡ ((bit_at a i == 1) || (bit_at b i == 1))
or_test a b i = ap (λ n. n == 1) (bit_at_or a b i) ∙ tests_or _ _ (bit_at-lt a i) (bit_at-lt b i)

-- a bit of `a & b`
pub and_test : (a b i : ℕ) → (bit_at (bit_and a b) i == 1) ≡ ((bit_at a i == 1) && (bit_at b i == 1))
and_test a b i = ap (λ n. n == 1) (bit_at_and a b i) ∙ tests_and _ _ (bit_at-lt a i) (bit_at-lt b i)

-- no bit is set past the last word
pub past_test : (words : List ℕ) (w i : ℕ) → length words ≤ w → (bit_at (get_or words w 0) i == 1) ≡ false
past_test words w i h = ap (λ y. bit_at y i == 1) (get_or_past words w 0 h) ∙ ap (λ b. b == 1) (bit_at-zero i)
