-- The orders of lines that are led: none, one more, and all as they stand.
use Rattle.std.proofs.Common.{◌≡◌, ◌⊎◌, inl, inr, ℕ, zero, suc, ◌+◌, ◌<◌, Bool, true, false, List, [], ◌∷◌, ◌++◌, length, refl, sym, ap, ◌∙◌, subst, arith}
use Rattle.std.specs.Prelude.{eqb, ◌||◌}
use Rattle.std.specs.List.{IsDistinct, list_any, range_with_len}
use Rattle.std.proofs.lemmas.Bool.{eqb-true, false_from_ne_true}
use Rattle.std.proofs.lemmas.Cmp.{nat_eq_equiv}
use Rattle.std.proofs.lemmas.List.{length_push}
use Rattle.std.proofs.lemmas.List.Folds.{list_any-append}
use Rattle.std.proofs.lemmas.Map.Keys.{IsDistinct-push}
use Rattle.std.proofs.lemmas.Map.Steps.{length-le_from_distinct_below}
use Rattle.word_machine_laws.specs.Orders.{AreLed, IsLed}

either : (a b : Bool) → (a || (b || false)) ≡ true → (a ≡ true) ⊎ (b ≡ true)
either true b e = inl refl
either false true e = inr refl
either false false e = absurd cc

-- one more line, which wasn't led
pub one-more : (n : ℕ) (order : List ℕ) (k : ℕ) → AreLed n order → k < n → (IsLed order k → ⊥) → AreLed n (order ++ k ∷ [])
one-more n order k led lt fresh = record {
  once = IsDistinct-push nat_eq_equiv order k led.once (false_from_ne_true (list_any (eqb k) order) fresh);
  within = λ j e. elim (either (list_any (eqb j) order) (eqb j k) (sym (list_any-append (eqb j) order (k ∷ [])) ∙ e)) [
    | inl h ↦ led.within j h
    | inr h ↦ subst (λ m. m < n) (sym (eqb-true j k h)) lt
  ];
}

-- before it not all lines were led
pub not-all : (n : ℕ) (order : List ℕ) (k : ℕ) → AreLed n order → k < n → (IsLed order k → ⊥) → length order < n
not-all n order k led lt fresh =
    let more = one-more n order k led lt fresh in
    let few = length-le_from_distinct_below (order ++ k ∷ []) n more.once more.within in
    let long = length_push order k in
    omega (arith, few, long)

none-distinct : IsDistinct {K = ℕ} eqb []
unfolding IsDistinct
none-distinct = tt

pub none-led : (n : ℕ) → AreLed n []
none-led n = record { once = none-distinct; within = λ k e. absurd cc }

-- all lines as they stand
last : (a n : ℕ) → range_with_len a (suc n) ≡ range_with_len a n ++ (a + n) ∷ []
last a zero = ap (λ k. k ∷ []) (omega arith)
last a (suc n) = ap (λ ks. a ∷ ks) (last (a + 1) n ∙ ap (λ k. range_with_len (a + 1) n ++ k ∷ []) (omega arith))

pub all-led : (n : ℕ) → AreLed n (range_with_len 0 n)
all-led zero = none-led 0
all-led (suc n) =
    let led = all-led n in
    let wider : AreLed (suc n) (range_with_len 0 n) = record { once = led.once; within = λ k e. (let lt = led.within k e in omega (arith, lt)) } in
    subst (AreLed (suc n)) (sym (last 0 n ∙ ap (λ k. range_with_len 0 n ++ k ∷ []) (omega arith)))
    (one-more (suc n) (range_with_len 0 n) n wider (omega arith) (λ e. let lt = led.within n e in omega (arith, lt)))
