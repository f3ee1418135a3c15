-- The lowest number that passes a test.
use Rattle.std.proofs.Common.{cond, ◌≡◌, ℕ, zero, suc, ◌+◌, ◌<◌, ◌≤◌, Bool, true, false, Some, None, refl, sym, ap, ap₂, ◌∙◌, inl, inr, arith}
use Rattle.std.proofs.lemmas.Bool.{cases_eq}
use Rattle.ft_base.specs.Desk.{lowest}

-- the lowest that passes is found
pub lowest-is : (p : ℕ → Bool) (from n x : ℕ) → from ≤ x → x < from + n → p x ≡ true → ((i : ℕ) → i < x → p i ≡ false) → lowest p from n ≡ Some x
lowest-is p from zero x le lt e none = absurd (omega arith)
lowest-is p from (suc n) x le lt e none = elim (cases_eq x from) [
  | inl same ↦ ap (λ b. cond b (Some from) (lowest p (suc from) n)) (ap p (sym same) ∙ e) ∙ ap Some (sym same)
  | inr apart ↦ ap (λ b. cond b (Some from) (lowest p (suc from) n)) (none from (omega arith))
      ∙ lowest-is p (suc from) n x (omega arith) (omega arith) e none
]

-- if none passes, none is found
pub lowest-none : (p : ℕ → Bool) (from n : ℕ) → ((i : ℕ) → p i ≡ false) → lowest p from n ≡ None
lowest-none p from zero none = refl
lowest-none p from (suc n) none = ap (λ b. cond b (Some from) (lowest p (suc from) n)) (none from) ∙ lowest-none p (suc from) n none

-- two tests that agree find the same number
pub lowest-same : (p q : ℕ → Bool) (from n : ℕ) → ((i : ℕ) → i < from + n → p i ≡ q i) → lowest p from n ≡ lowest q from n
lowest-same p q from zero same = refl
lowest-same p q from (suc n) same = ap₂ (λ b o. cond b (Some from) o) (same from (omega arith)) (lowest-same p q (suc from) n (λ i h. same i (omega arith)))

-- what is found is one of the numbers
pub lowest-below : (p : ℕ → Bool) (from n x : ℕ) → lowest p from n ≡ Some x → x < from + n
lowest-below p from zero x e = absurd cc
lowest-below p from (suc n) x e = by (p from) e (lowest-below p (suc from) n x)
  where
    by : (b : Bool) → cond b (Some from) (lowest p (suc from) n) ≡ Some x → (lowest p (suc from) n ≡ Some x → x < suc from + n) → x < from + suc n
    by true h rest = let same : from ≡ x = cc in omega arith
    by false h rest = let deeper = rest h in omega arith
