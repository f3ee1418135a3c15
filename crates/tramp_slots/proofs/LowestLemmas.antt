-- The lowest number that passes a test: how a search that goes up finds it.
use Rattle.std.proofs.Common.{◌≡◌, ℕ, zero, suc, ◌+◌, ◌<◌, ◌≤◌, Bool, true, false, Option, Some, None, refl, ap, ◌∙◌, cond, inl, inr, arith}
use Rattle.std.proofs.lemmas.Bool.{cases_lt}
use Rattle.ft_base.specs.Desk.{lowest}

-- a choice whose test is known
chosen : {A : Type 0} (b c : Bool) (x y : A) → b ≡ c → cond b x y ≡ cond c x y
chosen b c x y e = ap (λ b. cond b x y) e

-- the first that passes, on the way up
pub lowest-first : (p : ℕ → Bool) (from n x : ℕ) → from ≤ x → x < from + n → ((k : ℕ) → from ≤ k → k < x → p k ≡ false) → p x ≡ true
    → lowest p from n ≡ Some x
lowest-first p from zero x low high below is = absurd (omega arith)
lowest-first p from (suc n) x low high below is = elim (cases_lt from x) [
  | inl l ↦ chosen (p from) false (Some from) (lowest p (suc from) n) (below from (omega arith) l)
      ∙ lowest-first p (suc from) n x l (omega arith) (λ k a b. below k (omega arith) b) is
  | inr h ↦
      let same : from ≡ x = omega arith in
      chosen (p from) true (Some from) (lowest p (suc from) n) (ap p same ∙ is) ∙ ap (λ (k : ℕ). Some k) same
]

-- none, if none passes
pub lowest-none : (p : ℕ → Bool) (from n : ℕ) → ((k : ℕ) → from ≤ k → k < from + n → p k ≡ false) → lowest p from n ≡ None
lowest-none p from zero below = refl
lowest-none p from (suc n) below =
    chosen (p from) false (Some from) (lowest p (suc from) n) (below from (omega arith) (omega arith))
    ∙ lowest-none p (suc from) n (λ k a b. below k (omega arith) (omega arith))

-- two tests that say the same of each number have the same lowest one
pub lowest-same : (p q : ℕ → Bool) (from n : ℕ) → ((k : ℕ) → from ≤ k → k < from + n → p k ≡ q k) → lowest p from n ≡ lowest q from n
lowest-same p q from zero same = refl
lowest-same p q from (suc n) same =
    chosen (p from) (q from) (Some from) (lowest p (suc from) n) (same from (omega arith) (omega arith))
    ∙ ap (λ (o : Option ℕ). cond (q from) (Some from) o) (lowest-same p q (suc from) n (λ k a b. same k (omega arith) (omega arith)))
