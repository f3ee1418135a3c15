-- The lowest number that passes a test, and the lowest of two.
use Rattle.std.proofs.Common.{cond, ◌≡◌, ◌≢◌, ℕ, zero, suc, ◌+◌, ◌-◌, ◌<◌, ◌≤◌, Bool, true, false, not, ◌&&◌, ◌==◌, Option, Some, None, is_some, refl, sym, ap, ◌∙◌, subst, arith, inl, inr}
use Rattle.std.proofs.lemmas.Bool.{cases_eq, cases_lt}
use Rattle.std.proofs.lemmas.Bool.Decides.{eqb_tells}
use Rattle.ft_base.specs.Desk.{lowest}
use Rattle.ft_base.proofs.Small.{false_true}
use Rattle.module_table.specs.Lines.{has_other, lowest_of_two}

module _ (p : ℕ → Bool) where
  -- what is found passes, is one of the numbers, and none before it passes
  pub record IsLowest (from n x : ℕ) : Type 0 where
    pub passes : p x ≡ true
    pub low : from ≤ x
    pub high : x < from + n
    pub least : (i : ℕ) → from ≤ i → i < x → p i ≡ false

  pub lowest-some : (from n x : ℕ) → lowest p from n ≡ Some x → IsLowest from n x
  lowest-some from zero x e = absurd cc
  lowest-some from (suc n) x e = by (p from) (lowest-some (suc from) n x) refl e
    where
      by : (b : Bool) → (lowest p (suc from) n ≡ Some x → IsLowest (suc from) n x) → p from ≡ b → cond b (Some from) (lowest p (suc from) n) ≡ Some x → IsLowest from (suc n) x
      by true deeper h y =
          let same : from ≡ x = cc in
          record { passes = subst (λ z. p z ≡ true) same h; low = omega arith; high = omega arith; least = λ i l r. absurd (omega arith) }
      by false deeper h y =
          let is = deeper y in
          let low = is.low in
          let high = is.high in
          record {
            passes = is.passes;
            low = omega arith;
            high = omega arith;
            least = λ i l r. elim (cases_eq i from) [
              | inl same ↦ subst (λ z. p z ≡ false) (sym same) h
              | inr apart ↦ is.least i (omega arith) r
            ];
          }

  pub lowest-none : (from n : ℕ) → lowest p from n ≡ None → (i : ℕ) → from ≤ i → i < from + n → p i ≡ false
  lowest-none from zero e i l r = absurd (omega arith)
  lowest-none from (suc n) e i l r = by (p from) (lowest-none (suc from) n) refl e
    where
      by : (b : Bool) → (lowest p (suc from) n ≡ None → (i : ℕ) → suc from ≤ i → i < suc from + n → p i ≡ false) → p from ≡ b → cond b (Some from) (lowest p (suc from) n) ≡ None → p i ≡ false
      by true deeper h y = absurd cc
      by false deeper h y = elim (cases_eq i from) [
        | inl same ↦ subst (λ z. p z ≡ false) (sym same) h
        | inr apart ↦ deeper y i (omega arith) (omega arith)
      ]

  pub lowest-is_none : (from n : ℕ) → ((i : ℕ) → from ≤ i → i < from + n → p i ≡ false) → lowest p from n ≡ None
  lowest-is_none from zero all = refl
  lowest-is_none from (suc n) all = rw (all from (omega arith) (omega arith)) (lowest-is_none (suc from) n (λ i l r. all i (omega arith) (omega arith)))

  pub lowest-is_some : (from n x : ℕ) → IsLowest from n x → lowest p from n ≡ Some x
  lowest-is_some from zero x is = let l = is.low in let h = is.high in absurd (omega arith)
  lowest-is_some from (suc n) x is =
      let l = is.low in
      let h = is.high in
      elim (cases_eq x from) [
        | inl same ↦ rw (subst (λ z. p z ≡ true) same is.passes) (ap Some (sym same))
        | inr apart ↦ rw (is.least from (omega arith) (omega arith)) (lowest-is_some (suc from) n x
            (record { passes = is.passes; low = omega arith; high = omega arith; least = λ i a b. is.least i (omega arith) b }))
      ]

-- if a number passes, one is found
pub lowest-found : (p : ℕ → Bool) (from n x : ℕ) → from ≤ x → x < from + n → p x ≡ true → is_some (lowest p from n) ≡ true
lowest-found p from n x l r e = by (lowest p from n) refl
  where
    by : (o : Option ℕ) → lowest p from n ≡ o → is_some o ≡ true
    by (Some y) h = refl
    by None h = false_true (sym (lowest-none p from n h x l r) ∙ e)

-- ## the lowest of two

other_than : (ℕ → Bool) → ℕ → ℕ → Bool
other_than p u v = not (v == u) && p v

pub has_other-found : (p : ℕ → Bool) (n u v : ℕ) → v ≢ u → v < n → p v ≡ true → has_other p n u ≡ true
has_other-found p n u v apart lt e =
    let differ : (v == u) ≡ false = elim (eqb_tells v u) [ inl t ↦ absurd (apart t.1) | inr q ↦ q.0 ] in
    lowest-found (λ w. not (w == u) && p w) 0 n v (omega arith) (omega arith) (rw (differ, e) refl)

pub has_other-none : (p : ℕ → Bool) (n u : ℕ) → ((v : ℕ) → v ≢ u → v < n → p v ≡ false) → has_other p n u ≡ false
has_other-none p n u all = rw (lowest-is_none (λ w. not (w == u) && p w) 0 n each) refl
  where
    each : (i : ℕ) → 0 ≤ i → i < 0 + n → (not (i == u) && p i) ≡ false
    each i l r = elim (eqb_tells i u) [
      | inl t ↦ rw t.0 refl
      | inr q ↦ rw (q.0, all i q.1 (omega arith)) refl
    ]

module _ (p : ℕ → Bool) (n : ℕ) where
  -- if there is none, each that passes is the same
  pub two-apart : lowest_of_two p n ≡ None → (u v : ℕ) → u < n → v < n → p u ≡ true → p v ≡ true → u ≡ v
  two-apart none u v lu lv pu pv = elim (cases_eq u v) [
    | inl same ↦ same
    | inr apart ↦ false_true (sym (lowest-none (λ w. p w && has_other p n w) 0 n none u (omega arith) (omega arith))
        ∙ rw (pu, has_other-found p n u v (λ e. apart (sym e)) lv pv) refl)
  ]

  module _ (u : ℕ) (first : lowest p 0 n ≡ Some u) where
    pub two-found : (v : ℕ) → lowest p (suc u) (n - suc u) ≡ Some v → Some u ≡ lowest_of_two p n
    two-found v second =
        let a = lowest-some p 0 n u first in
        let b = lowest-some p (suc u) (n - suc u) v second in
        let lu = a.high in
        let bl = b.low in
        let bh = b.high in
        sym (lowest-is_some (λ w. p w && has_other p n w) 0 n u (record {
          passes = rw (a.passes, has_other-found p n u v (λ e. absurd (omega arith)) (omega arith) b.passes) refl;
          low = omega arith;
          high = a.high;
          least = λ i l r. rw (a.least i l r) refl;
        }))

    pub two-alone : lowest p (suc u) (n - suc u) ≡ None → None ≡ lowest_of_two p n
    two-alone second =
        let a = lowest-some p 0 n u first in
        let lu = a.high in
        let others : (v : ℕ) → v ≢ u → v < n → p v ≡ false = λ v apart lt. elim (cases_lt v u) [
          | inl h ↦ a.least v (omega arith) h
          | inr h ↦ lowest-none p (suc u) (n - suc u) second v (omega arith) (omega arith)
        ] in
        sym (lowest-is_none (λ w. p w && has_other p n w) 0 n (λ i l r. elim (cases_eq i u) [
          | inl same ↦ subst (λ z. (p z && has_other p n z) ≡ false) (sym same) (rw (a.passes, has_other-none p n u others) refl)
          | inr apart ↦ rw (others i apart (omega arith)) refl
        ]))

  pub two-none : lowest p 0 n ≡ None → None ≡ lowest_of_two p n
  two-none first = sym (lowest-is_none (λ w. p w && has_other p n w) 0 n (λ i l r. rw (lowest-none p 0 n first i l r) refl))
