-- A map from names to numbers, filled in the order of the numbers.
use Rattle.std.proofs.Common.{cond, ◌≡◌, ℕ, ◌+◌, Bool, true, false, Option, Some, None, Result, Ok, Err, refl, sym, ap, ◌∙◌, arith, inl, inr}
use Rattle.std.specs.Bool.{Decides}
use Rattle.std.specs.Prelude.{OnOk}
use Rattle.std.specs.Result.{is_err}
use Rattle.std.proofs.lemmas.Bool.{cases_lt}
use Rattle.ft_base.proofs.Small.{false_true}
use Rattle.log_reader.specs.Lookups.{IsFound}

-- names are told apart by a test, and things have numbers
module _ {A B : Type 0} (same : A → A → Bool) (decides : (a b : A) → Decides (same a b) (a ≡ b)) (number : B → ℕ) (name : ℕ → A) where
  -- one more is put under its name
  pub found-more : (n : ℕ) (x : B) (key : A) (old new : A → Option B) → number x ≡ n → key ≡ name n → ((q : A) → new q ≡ cond (same key q) (Some x) (old q))
      → ((w : A) → IsFound number n name w (old w)) → (w : A) → IsFound number (n + 1) name w (new w)
  found-more n x key old new is named put so_far w = rw (put w) (by (same key w) refl (old w) (so_far w))
    where
      by : (t : Bool) → same key w ≡ t → (o : Option B) → IsFound number n name w o → IsFound number (n + 1) name w (cond t (Some x) o)
      by true e o h = (omega arith, ap name is ∙ sym named ∙ (decides key w).0 e)
      by false e (Some y) h = (let lt = h.0 in omega arith, h.1)
      by false e None h = λ k lt called. elim (cases_lt k n) [
        | inl below ↦ h k below called
        | inr past ↦ (let at : n ≡ k = omega arith in false_true (sym e ∙ (decides key w).1 (named ∙ ap name at ∙ called)))
      ]

-- what a call says if it succeeds
pub on-ok : {T E P : Type 0} (r : Result T E) → OnOk r P → is_err r ≡ false → P
on-ok (Ok x) h e = h
on-ok (Err x) h e = false_true (sym e)
