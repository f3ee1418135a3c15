-- What all triggers make of the fold at one item.
use Rattle.std.proofs.Common.{◌≡◌, ◌≢◌, ◌⊎◌, ℕ, zero, suc, ◌+◌, ◌<◌, ◌≤◌, Bool, true, false, List, [], ◌∷◌, ◌++◌, length, set, inl, inr, ⊎_elim, cond, refl, sym, ap, ◌∙◌, subst, arith, length-set, get_or-set_same, get_or-set_other}
use Rattle.std.specs.Prelude.{◌&&◌, if◌then◌else◌, slice_index}
use Rattle.ft_base.proofs.Small.{false_true, and-false}
use Rattle.ft_base.specs.Job.{Trigger}
use Rattle.ft_base.specs.declared.item.Item.{Item}
use Rattle.ft_base.specs.declared.item.Item.TheVariants.{Back}
use Rattle.ft_base.specs.declared.item.Stamped.{Stamped}
use Rattle.ring_rules.specs.Plan.{TracePlan}
use Rattle.ring_rules.specs.Hits.{fires, has, is_hit, is_traced, trigger}
use Rattle.ring_rules.specs.Fold.{Tracing, hit, hit_all}
use Rattle.ring_rules.specs.Legal.{fired_at, has_fired, switched}
use Rattle.ring_rules.proofs.Lists.{bool_cases, has-last}
use Rattle.ring_rules.proofs.Numbers.{num, plus-none, plus-one}
use Rattle.ring_rules.proofs.Totals.{same-or}

-- ## switches

-- one of the first n triggers tells what they make of a switch, or they leave it
pub switched-by : (plan : TracePlan) (fired : List (List ℕ)) (x : Stamped) (n : ℕ)
    → ((on : Bool) → switched plan fired x n on ≡ on)
    ⊎ ((i : ℕ) × (i < n) × (has_fired plan fired x i ≡ true) × ((on : Bool) → (trigger plan i).on ≡ switched plan fired x n on))
switched-by plan fired x zero = inl (λ on. refl)
switched-by plan fired x (suc n) =
    ⊎_elim
    (λ e. inr (n, omega arith, e, λ on. sym (ap (λ b. cond b (trigger plan n).on (switched plan fired x n on)) e)))
    (λ e.
    ⊎_elim
    (λ (q : (on : Bool) → switched plan fired x n on ≡ on). inl (λ on. ap (λ b. cond b (trigger plan n).on (switched plan fired x n on)) e ∙ q on))
    (λ (q : (i : ℕ) × (i < n) × (has_fired plan fired x i ≡ true) × ((on : Bool) → (trigger plan i).on ≡ switched plan fired x n on)).
    inr (q.0, (let lt = q.1 in omega (arith, lt)), q.2, λ on. q.3 on ∙ sym (ap (λ b. cond b (trigger plan n).on (switched plan fired x n on)) e)))
    (switched-by plan fired x n))
    (bool_cases (has_fired plan fired x n))

-- ## all triggers

-- what the first m triggers make of the fold at item x
pub record HitTo (plan : TracePlan) (x : Stamped) (s t : Tracing) (m : ℕ) : Type 0 where
  pub on' : t.on ≡ switched plan t.rings.fired x m s.on
  pub hits : (i : ℕ) → i < m → slice_index t.hits i ≡ slice_index s.hits i + num (is_hit (trigger plan i) x.item)
  pub later : (i : ℕ) → m ≤ i → slice_index t.hits i ≡ slice_index s.hits i
  pub lengths : (length t.hits ≡ length s.hits) × (length t.rings.fired ≡ length s.rings.fired)
  pub none : (i : ℕ) → i < m → (is_hit (trigger plan i) x.item && fires (trigger plan i).limit (slice_index s.hits i)) ≡ false
      → fired_at t.rings.fired i ≡ fired_at s.rings.fired i
  pub one : (i : ℕ) → i < m → (is_hit (trigger plan i) x.item && fires (trigger plan i).limit (slice_index s.hits i)) ≡ true
      → fired_at t.rings.fired i ≡ fired_at s.rings.fired i ++ x.place ∷ []
  pub kept : (i : ℕ) → m ≤ i → fired_at t.rings.fired i ≡ fired_at s.rings.fired i
  pub cpus : t.rings.cpus ≡ s.rings.cpus

module _ (plan : TracePlan) (x : Stamped) (s t : Tracing) (m : ℕ) (h : HitTo plan x s t m) (inside : m < length s.hits)
    (listed : m < length s.rings.fired)
    (fresh : has (fired_at s.rings.fired m) x.place ≡ false) where
  not-yet : has (fired_at t.rings.fired m) x.place ≡ false
  not-yet = ap (λ l. has l x.place) (h.kept m (omega arith)) ∙ fresh

  count-is : slice_index t.hits m ≡ slice_index s.hits m
  count-is = h.later m (omega arith)

  step-missed : is_hit (trigger plan m) x.item ≡ false → HitTo plan x s t (suc m)
  step-missed e = record {
    on' = h.on' ∙ sym (ap (λ b. cond (b && has (fired_at t.rings.fired m) x.place) (trigger plan m).on (switched plan t.rings.fired x m s.on)) e);
    hits = λ i lt.
        ⊎_elim
        (λ (q : i ≡ m). subst (λ j. slice_index t.hits j ≡ slice_index s.hits j + num (is_hit (trigger plan j) x.item)) (sym q)
        (count-is ∙ plus-none (slice_index s.hits m) ∙ sym (ap (λ b. slice_index s.hits m + num b) e)))
        (λ (ne : i ≢ m). h.hits i (omega (arith, lt, ne)))
        (same-or i m);
    later = λ i low. h.later i (omega (arith, low));
    lengths = h.lengths;
    none = λ i lt f.
        ⊎_elim (λ (q : i ≡ m). h.kept i (omega (arith, q))) (λ (ne : i ≢ m). h.none i (omega (arith, lt, ne)) f) (same-or i m);
    one = λ i lt f.
        ⊎_elim
        (λ (q : i ≡ m). false_true (sym (ap (λ b. b && fires (trigger plan m).limit (slice_index s.hits m)) e)
        ∙ subst (λ j. (is_hit (trigger plan j) x.item && fires (trigger plan j).limit (slice_index s.hits j)) ≡ true) q f))
        (λ (ne : i ≢ m). h.one i (omega (arith, lt, ne)) f)
        (same-or i m);
    kept = λ i low. h.kept i (omega (arith, low));
    cpus = h.cpus;
  }

  module _ (e : is_hit (trigger plan m) x.item ≡ true) where
    hits' : List ℕ
    hits' = set t.hits m (suc (slice_index t.hits m))

    hits-now : (i : ℕ) → i < suc m
        → slice_index (set t.hits m (suc (slice_index t.hits m))) i ≡ slice_index s.hits i + num (is_hit (trigger plan i) x.item)
    hits-now i lt =
        ⊎_elim
        (λ (q : i ≡ m).
        subst (λ j. slice_index (set t.hits m (suc (slice_index t.hits m))) j ≡ slice_index s.hits j + num (is_hit (trigger plan j) x.item)) (sym q)
        (get_or-set_same t.hits m (suc (slice_index t.hits m)) 0 (let l = h.lengths.0 in omega (arith, l, inside)) ∙ ap suc count-is
        ∙ plus-one (slice_index s.hits m)
        ∙ sym (ap (λ b. slice_index s.hits m + num b) e)))
        (λ (ne : i ≢ m). get_or-set_other t.hits m i (suc (slice_index t.hits m)) 0 ne ∙ h.hits i (omega (arith, lt, ne)))
        (same-or i m)

    hits-later : (i : ℕ) → suc m ≤ i → slice_index (set t.hits m (suc (slice_index t.hits m))) i ≡ slice_index s.hits i
    hits-later i low = get_or-set_other t.hits m i (suc (slice_index t.hits m)) 0 (λ q. absurd (omega (arith, q, low)))
        ∙ h.later i (omega (arith, low))

    fires-is : fires (trigger plan m).limit (slice_index t.hits m)
        ≡ (is_hit (trigger plan m) x.item && fires (trigger plan m).limit (slice_index s.hits m))
    fires-is = ap (fires (trigger plan m).limit) count-is ∙ sym (ap (λ b. b && fires (trigger plan m).limit (slice_index s.hits m)) e)

    step-drawn : fires (trigger plan m).limit (slice_index t.hits m) ≡ false
        → HitTo plan x s (record { on = t.on; hits = set t.hits m (suc (slice_index t.hits m)); rings = t.rings }) (suc m)
    step-drawn f = record {
      on' = h.on' ∙ sym (ap (λ b. cond b (trigger plan m).on (switched plan t.rings.fired x m s.on))
          ((λ j. is_hit (trigger plan m) x.item && not-yet j) ∙ and-false (is_hit (trigger plan m) x.item)));
      hits = hits-now;
      later = hits-later;
      lengths = (length-set t.hits m (suc (slice_index t.hits m)) ∙ h.lengths.0, h.lengths.1);
      none = λ i lt g.
          ⊎_elim (λ (q : i ≡ m). h.kept i (omega (arith, q))) (λ (ne : i ≢ m). h.none i (omega (arith, lt, ne)) g) (same-or i m);
      one = λ i lt g.
          ⊎_elim
          (λ (q : i ≡ m). false_true (sym (sym fires-is ∙ f)
          ∙ subst (λ j. (is_hit (trigger plan j) x.item && fires (trigger plan j).limit (slice_index s.hits j)) ≡ true) q g))
          (λ (ne : i ≢ m). h.one i (omega (arith, lt, ne)) g)
          (same-or i m);
      kept = λ i low. h.kept i (omega (arith, low));
      cpus = h.cpus;
    }

    fired-here : fired_at (set t.rings.fired m (fired_at t.rings.fired m ++ x.place ∷ [])) m ≡ fired_at t.rings.fired m ++ x.place ∷ []
    fired-here = get_or-set_same t.rings.fired m (fired_at t.rings.fired m ++ x.place ∷ []) [] (let l = h.lengths.1 in omega (arith, l, listed))

    fired-else : (i : ℕ) → i ≢ m → fired_at (set t.rings.fired m (fired_at t.rings.fired m ++ x.place ∷ [])) i ≡ fired_at t.rings.fired i
    fired-else i ne = get_or-set_other t.rings.fired m i (fired_at t.rings.fired m ++ x.place ∷ []) [] ne

    step-fired : fires (trigger plan m).limit (slice_index t.hits m) ≡ true
        → HitTo plan x s
        (record {
          on = (trigger plan m).on;
          hits = set t.hits m (suc (slice_index t.hits m));
          rings = record { cpus = t.rings.cpus; fired = set t.rings.fired m (fired_at t.rings.fired m ++ x.place ∷ []) };
        }) (suc m)
    step-fired f = record {
      on' = sym (ap (λ b. cond b (trigger plan m).on (switched plan (set t.rings.fired m (fired_at t.rings.fired m ++ x.place ∷ [])) x m s.on))
          (λ j. e j && (ap (λ l. has l x.place) fired-here ∙ has-last (fired_at t.rings.fired m) x.place) j));
      hits = hits-now;
      later = hits-later;
      lengths = (
        length-set t.hits m (suc (slice_index t.hits m)) ∙ h.lengths.0,
        length-set t.rings.fired m (fired_at t.rings.fired m ++ x.place ∷ []) ∙ h.lengths.1,
      );
      none = λ i lt g.
          ⊎_elim
          (λ (q : i ≡ m).
          false_true (sym (subst (λ j. (is_hit (trigger plan j) x.item && fires (trigger plan j).limit (slice_index s.hits j)) ≡ false) q g)
          ∙ sym fires-is ∙ f))
          (λ (ne : i ≢ m). fired-else i ne ∙ h.none i (omega (arith, lt, ne)) g)
          (same-or i m);
      one = λ i lt g.
          ⊎_elim
          (λ (q : i ≡ m). ap (fired_at (set t.rings.fired m (fired_at t.rings.fired m ++ x.place ∷ []))) q ∙ fired-here
          ∙ ap (λ l. l ++ x.place ∷ []) (h.kept m (omega arith) ∙ ap (fired_at s.rings.fired) (sym q)))
          (λ (ne : i ≢ m). fired-else i ne ∙ h.one i (omega (arith, lt, ne)) g)
          (same-or i m);
      kept = λ i low. fired-else i (λ q. absurd (omega (arith, q, low))) ∙ h.kept i (omega (arith, low));
      cpus = h.cpus;
    }

    step-hit : HitTo plan x s (hit plan x.place m t) (suc m)
    step-hit = by (fires (trigger plan m).limit (slice_index t.hits m)) refl
      where
        by : (b : Bool) → fires (trigger plan m).limit (slice_index t.hits m) ≡ b
            → HitTo plan x s
            (cond b
            (record {
              on = (trigger plan m).on;
              hits = set t.hits m (suc (slice_index t.hits m));
              rings = record { cpus = t.rings.cpus; fired = set t.rings.fired m (fired_at t.rings.fired m ++ x.place ∷ []) };
            })
            (record { on = t.on; hits = set t.hits m (suc (slice_index t.hits m)); rings = t.rings }))
            (suc m)
        by true f = step-fired f
        by false f = step-drawn f

  step-all : HitTo plan x s (if is_hit (trigger plan m) x.item then hit plan x.place m t else t) (suc m)
  step-all = by (is_hit (trigger plan m) x.item) refl
    where
      by : (b : Bool) → is_hit (trigger plan m) x.item ≡ b → HitTo plan x s (cond b (hit plan x.place m t) t) (suc m)
      by true e = step-hit e
      by false e = step-missed e

pub hit-to : (plan : TracePlan) (x : Stamped) (s : Tracing) (m : ℕ) → m ≤ length s.hits → m ≤ length s.rings.fired
    → ((i : ℕ) → i < m → has (fired_at s.rings.fired i) x.place ≡ false) → HitTo plan x s (hit_all plan x.place x.item m s) m
hit-to plan x s zero a b fresh = record {
  on' = refl;
  hits = λ i lt. absurd (omega (arith, lt));
  later = λ i low. refl;
  lengths = (refl, refl);
  none = λ i lt f. absurd (omega (arith, lt));
  one = λ i lt f. absurd (omega (arith, lt));
  kept = λ i low. refl;
  cpus = refl;
}
hit-to plan x s (suc m) a b fresh =
    step-all plan x s (hit_all plan x.place x.item m s) m
    (hit-to plan x s m (omega (arith, a)) (omega (arith, b)) (λ i lt. fresh i (omega (arith, lt))))
    (omega (arith, a)) (omega (arith, b)) (fresh m (omega arith))

-- ## an item

pub traced-no-hit : (plan : TracePlan) (t : Trigger) (item : Item) → is_traced plan item ≡ true → is_hit t item ≡ false
traced-no-hit plan t (Back call u) e = refl
traced-no-hit plan t _ e = false_true e

pub no-switch : (plan : TracePlan) (fired : List (List ℕ)) (x : Stamped) (n : ℕ) (on : Bool) → is_traced plan x.item ≡ true
    → switched plan fired x n on ≡ on
no-switch plan fired x zero on e = refl
no-switch plan fired x (suc n) on e =
    ap (λ b. cond (b && has (fired_at fired n) x.place) (trigger plan n).on (switched plan fired x n on))
    (traced-no-hit plan (trigger plan n) x.item e)
    ∙ no-switch plan fired x n on e
