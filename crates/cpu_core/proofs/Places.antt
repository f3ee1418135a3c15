-- The first place of a list that passes a test.
use Rattle.std.proofs.Common.{cond, ◌≡◌, ℕ, suc, ◌+◌, Bool, true, false, not, nat_lt, List, [], ◌∷◌, find, length, position, slice_get, Option, Some, None, option_map, refl, arith}
use Rattle.std.specs.List.{list_any, position_or_len}
use Rattle.std.proofs.lemmas.Bool.{lt-ltb}
use Rattle.std.proofs.lemmas.Bool.Decides.{nat_tests}

pub more-below : (i n : ℕ) → nat_lt (suc i) (suc n) ≡ nat_lt i n
more-below i n = grind (arith, nat_tests)

module _ {X : Type 0} (q : X → Bool) where
  pub place-more : (x : X) (xs : List X) → position q (x ∷ xs) ≡ cond (q x) (Some 0) (option_map (λ k. suc k) (position q xs))
  place-more x xs = by (q x)
    where
      later : (m : ℕ) (b : Bool) → cond b (Some (suc m)) None ≡ option_map (λ k. suc k) (cond b (Some m) None)
      later m true = refl
      later m false = refl

      by : (b : Bool) → cond (nat_lt (cond (not b) (1 + position_or_len q xs) 0) (suc (length xs))) (Some (cond (not b) (1 + position_or_len q xs) 0)) None
          ≡ cond b (Some 0) (option_map (λ k. suc k) (position q xs))
      by true = let lt : nat_lt 0 (suc (length xs)) ≡ true = lt-ltb 0 (suc (length xs)) (omega arith) in rw lt refl
      by false =
          let e : 1 + position_or_len q xs ≡ suc (position_or_len q xs) = omega arith in
          rw (e, more-below (position_or_len q xs) (length xs)) (later (position_or_len q xs) (nat_lt (position_or_len q xs) (length xs)))

  -- none passes, or the first that does stands at the first place
  pub first-case : (xs : List X) (P : Option ℕ → Option X → Type 0) → (list_any q xs ≡ false → P None None)
      → ((k : ℕ) (x : X) → slice_get xs k ≡ Some x → q x ≡ true → P (Some k) (Some x)) → P (position q xs) (find q xs)
  first-case [] P none some = none refl
  first-case (x ∷ xs) P none some =
      rw (place-more x xs)
      (elim (q x) as (λ b. q x ≡ b → P (cond b (Some 0) (option_map (λ k. suc k) (position q xs))) (cond b (Some x) (find q xs))) [
        | true ↦ λ e. some 0 x refl e
        | false ↦ λ e. first-case xs (λ o f. P (option_map (λ k. suc k) o) f) (λ no. none (rw (e, no) refl)) (λ k y at is. some (suc k) y at is)
      ] refl)
