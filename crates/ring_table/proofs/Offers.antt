-- What all triggers make of a seat at an item, and what the item makes of it.
use Rattle.std.proofs.Common.{◌≡◌, ◌≢◌, ℕ, suc, ◌+◌, ◌<◌, ◌≤◌, Bool, true, false, List, [], ◌∷◌, ◌++◌, length, set, inl, inr, ⊎_elim, cond, refl, sym, ap, ◌∙◌, subst, arith, length-append, length-set, get_or-set_same, get_or-set_other}
use Rattle.std.specs.Prelude.{◌&&◌, ◌||◌, not, if◌then◌else◌}
use Rattle.ft_base.proofs.Small.{false_true, and-false, or-true}
use Rattle.ft_base.specs.declared.item.Stamped.{Stamped}
use Rattle.ring_rules.specs.Plan.{TracePlan}
use Rattle.ring_rules.specs.Hits.{fires, has, is_hit, is_traced, trigger}
use Rattle.ring_rules.specs.Legal.{fired_at, switched}
use Rattle.ring_rules.specs.RingInvariant.{CpuInvariant, ring_after}
use Rattle.ring_rules.proofs.OneMore.{kept-more, switched-same}
use Rattle.ring_rules.proofs.HitAll.{no-switch}
use Rattle.ring_rules.proofs.Lists.{has-last}
use Rattle.ring_rules.proofs.Numbers.{num, plus-none, plus-one}
use Rattle.ring_rules.proofs.Totals.{same-or}
use Rattle.ring_table.specs.declared.view.Known.{Known}
use Rattle.ring_table.specs.Seats.{HitFor, Hits, SeatHas, SeatPlace, hit_with, looked_with, passed, with_known}
use Rattle.ring_table.specs.Tally.{drawn, hits_of, looked, saw, switched_to}

-- ## trigger by trigger

pub hit-none : (x : Stamped) (s : SeatPlace) → HitFor x s s 0
hit-none x s = record {
  rest = refl;
  own = refl;
  hits = λ i lt. absurd (omega (arith, lt));
  later = λ i low. refl;
  lengths = (refl, refl);
  grows = λ i lt. absurd (omega (arith, lt));
  kept = λ i low. refl;
  saw' = λ b. refl;
}

-- the first m triggers alone make a switch
switched-first : (plan : TracePlan) (fired fired' : List (List ℕ)) (x : Stamped) (m : ℕ) (on : Bool)
    → ((i : ℕ) → i < m → fired_at fired' i ≡ fired_at fired i) → switched plan fired x m on ≡ switched plan fired' x m on
switched-first plan fired fired' x m on same = switched-same plan fired fired' x m on (λ i lt. ap (λ l. has l x.place) (sym (same i lt)))

module _ (x : Stamped) (s t : SeatPlace) (m : ℕ) (h : HitFor x s t m) (inside : m < length s.known.hits) (listed : m < length s.fired)
    (fresh : has (fired_at s.fired m) x.place ≡ false) where
  plan-is : t.plan ≡ s.plan
  plan-is = ap (λ (u : SeatPlace). u.plan) h.rest

  not-yet : has (fired_at t.fired m) x.place ≡ false
  not-yet = ap (λ l. has l x.place) (h.kept m (omega arith)) ∙ fresh

  -- it isn't hit
  missed : is_hit (trigger t.plan m) x.item ≡ false → HitFor x s t (suc m)
  missed no-hit =
      let none : is_hit (trigger s.plan m) x.item ≡ false = ap (λ p. is_hit (trigger p m) x.item) (sym plan-is) ∙ no-hit in
      record {
        rest = h.rest;
        own = h.own ∙ sym (ap (λ b. cond (b && has (fired_at t.fired m) x.place) (trigger s.plan m).on (switched s.plan t.fired x m s.known.own))
            none);
        hits = λ i lt.
            ⊎_elim
            (λ (e : i ≡ m). subst (λ j. hits_of t.known j ≡ hits_of s.known j + (if is_hit (trigger s.plan j) x.item then 1 else 0)) (sym e)
            (h.later m (omega arith) ∙ sym (ap (λ b. hits_of s.known m + num b) none ∙ sym (plus-none (hits_of s.known m)))))
            (λ (ne : i ≢ m). h.hits i (omega (arith, lt, ne)))
            (same-or i m);
        later = λ i low. h.later i (omega (arith, low));
        lengths = h.lengths;
        grows = λ i lt.
            ⊎_elim
            (λ (e : i ≡ m). inl (h.kept i (omega (arith, e))))
            (λ (ne : i ≢ m). h.grows i (omega (arith, lt, ne)))
            (same-or i m);
        kept = λ i low. h.kept i (omega (arith, low));
        saw' = h.saw';
      }

  module _ (n : ℕ) (hit : is_hit (trigger t.plan m) x.item ≡ true) where
    hit' : is_hit (trigger s.plan m) x.item ≡ true
    hit' = ap (λ p. is_hit (trigger p m) x.item) (sym plan-is) ∙ hit

    one-more : hits_of (drawn t.plan m n t.known) m ≡ hits_of s.known m + (if is_hit (trigger s.plan m) x.item then 1 else 0)
    one-more =
        get_or-set_same t.known.hits m (suc (hits_of t.known m)) 0 (let l = h.lengths.0 in omega (arith, l, inside))
        ∙ ap suc (h.later m (omega arith))
        ∙ plus-one (hits_of s.known m)
        ∙ sym (ap (λ b. hits_of s.known m + num b) hit')

    hits-now : (i : ℕ) → i < suc m → hits_of (drawn t.plan m n t.known) i ≡ hits_of s.known i + (if is_hit (trigger s.plan i) x.item then 1 else 0)
    hits-now i lt =
        ⊎_elim
        (λ (e : i ≡ m). subst (λ j. hits_of (drawn t.plan m n t.known) j ≡ hits_of s.known j + (if is_hit (trigger s.plan j) x.item then 1 else 0))
        (sym e) one-more)
        (λ (ne : i ≢ m). get_or-set_other t.known.hits m i (suc (hits_of t.known m)) 0 ne ∙ h.hits i (omega (arith, lt, ne)))
        (same-or i m)

    hits-later : (i : ℕ) → suc m ≤ i → hits_of (drawn t.plan m n t.known) i ≡ hits_of s.known i
    hits-later i low = get_or-set_other t.known.hits m i (suc (hits_of t.known m)) 0 (λ e. absurd (omega (arith, e, low)))
        ∙ h.later i (omega (arith, low))

    saw-drawn : (b : Bool) → saw (drawn t.plan m n t.known) b ≡ saw s.known b
    saw-drawn true = h.saw' true
    saw-drawn false = h.saw' false

    saw-switched : (on b : Bool) → saw (switched_to on (drawn t.plan m n t.known)) b ≡ saw s.known b
    saw-switched on true = h.saw' true
    saw-switched on false = h.saw' false

    -- it doesn't fire
    drew : HitFor x s (with_known t (drawn t.plan m n t.known) t.fired) (suc m)
    drew = record {
      rest = ap (λ u. with_known u (drawn t.plan m n t.known) t.fired) h.rest;
      own = h.own ∙ sym (ap (λ b. cond b (trigger s.plan m).on (switched s.plan t.fired x m s.known.own))
          ((λ j. is_hit (trigger s.plan m) x.item && not-yet j) ∙ and-false (is_hit (trigger s.plan m) x.item)));
      hits = hits-now;
      later = hits-later;
      lengths = (length-set t.known.hits m (suc (hits_of t.known m)) ∙ h.lengths.0, h.lengths.1);
      grows = λ i lt.
          ⊎_elim
          (λ (e : i ≡ m). inl (h.kept i (omega (arith, e))))
          (λ (ne : i ≢ m). h.grows i (omega (arith, lt, ne)))
          (same-or i m);
      kept = λ i low. h.kept i (omega (arith, low));
      saw' = saw-drawn;
    }

    -- it fires
    abbrev fired' : List (List ℕ)
    fired' = set t.fired m (fired_at t.fired m ++ x.place ∷ [])

    fired-here : fired_at fired' m ≡ fired_at t.fired m ++ x.place ∷ []
    fired-here = get_or-set_same t.fired m (fired_at t.fired m ++ x.place ∷ []) [] (let l = h.lengths.1 in omega (arith, l, listed))

    fired-else : (i : ℕ) → i ≢ m → fired_at fired' i ≡ fired_at t.fired i
    fired-else i ne = get_or-set_other t.fired m i (fired_at t.fired m ++ x.place ∷ []) [] ne

    shot : HitFor x s (with_known t (switched_to (trigger t.plan m).on (drawn t.plan m n t.known)) fired') (suc m)
    shot = record {
      rest = ap (λ u. with_known u (switched_to (trigger t.plan m).on (drawn t.plan m n t.known)) fired') h.rest;
      own = ap (λ p. (trigger p m).on) plan-is
          ∙ sym (ap (λ b. cond b (trigger s.plan m).on (switched s.plan fired' x m s.known.own))
          ((λ j. hit' j && (ap (λ l. has l x.place) fired-here ∙ has-last (fired_at t.fired m) x.place) j)));
      hits = hits-now;
      later = hits-later;
      lengths = (
        length-set t.known.hits m (suc (hits_of t.known m)) ∙ h.lengths.0,
        length-set t.fired m (fired_at t.fired m ++ x.place ∷ []) ∙ h.lengths.1,
      );
      grows = λ i lt.
          ⊎_elim
          (λ (e : i ≡ m). inr (
            ap (λ j. is_hit (trigger s.plan j) x.item) e ∙ hit',
            ap (fired_at fired') e ∙ fired-here ∙ ap (λ l. l ++ x.place ∷ []) (h.kept m (omega arith) ∙ ap (fired_at s.fired) (sym e)),
          ))
          (λ (ne : i ≢ m).
          ⊎_elim (λ q. inl (fired-else i ne ∙ q))
          (λ (q : (is_hit (trigger s.plan i) x.item ≡ true) × (fired_at t.fired i ≡ fired_at s.fired i ++ x.place ∷ [])). inr (
            q.0,
            fired-else i ne ∙ q.1,
          ))
          (h.grows i (omega (arith, lt, ne))))
          (same-or i m);
      kept = λ i low. fired-else i (λ e. absurd (omega (arith, e, low))) ∙ h.kept i (omega (arith, low));
      saw' = saw-switched (trigger t.plan m).on;
    }

    hit-made : HitFor x s (hit_with t m x.place n) (suc m)
    hit-made = by (fires (trigger t.plan m).limit n)
      where
        by : (b : Bool)
            → HitFor x s (cond b (with_known t (switched_to (trigger t.plan m).on (drawn t.plan m n t.known)) fired')
            (with_known t (drawn t.plan m n t.known) t.fired)) (suc m)
        by true = shot
        by false = drew

  pub hit-more : (u : SeatPlace) → Hits m x t u → HitFor x s u (suc m)
  hit-more u hits =
      ⊎_elim (λ (q : (is_hit (trigger t.plan m) x.item ≡ false) × (u ≡ t)). subst (λ v. HitFor x s v (suc m)) (sym q.1) (missed q.0))
      (λ (q : (is_hit (trigger t.plan m) x.item ≡ true) × ((n : ℕ) × (u ≡ hit_with t m x.place n))).
      subst (λ v. HitFor x s v (suc m)) (sym q.1.1) (hit-made q.1.0 q.0))
      hits

-- ## an item

-- what is seen stays, and what is found against the own switch is seen
looked-saw : (on : Bool) (k : Known) (b : Bool) → saw k b ≡ true → saw (looked on k) b ≡ true
looked-saw on k true e = ap (λ c. c || (not k.own && on)) e
looked-saw on k false e = ap (λ c. c || (k.own && not on)) e

looked-off : (on : Bool) (k : Known) → k.own ≡ true → on ≡ false → saw (looked on k) false ≡ true
looked-off on k own off = (λ j. k.saw_off || (own j && not (off j))) ∙ or-true k.saw_off

looked-on : (on : Bool) (k : Known) → k.own ≡ false → on ≡ true → saw (looked on k) true ≡ true
looked-on on k own is-on = (λ j. k.saw_on || (not (own j) && is-on j)) ∙ or-true k.saw_on

module _ (items : List Stamped) (x : Stamped) (s t : SeatPlace) (low : s.next ≤ x.place) (has-items : SeatHas s.plan items s) (room : 0 < s.left)
    (h : HitFor x (passed s x.place) t (length s.plan.triggers)) where
  next-is : t.next ≡ x.place + 1
  next-is = ap (λ (u : SeatPlace). u.next) h.rest

  ring-is : t.ring ≡ s.ring
  ring-is = ap (λ (u : SeatPlace). u.ring) h.rest

  plan-same : t.plan ≡ s.plan
  plan-same = ap (λ (u : SeatPlace). u.plan) h.rest

  own-same : is_traced s.plan x.item ≡ true → t.known.own ≡ s.known.own
  own-same e = h.own ∙ no-switch s.plan t.fired x (length s.plan.triggers) s.known.own e

  one-more-offered : length (items ++ x ∷ []) + t.left ≡ t.room
  one-more-offered =
      let many = length-append items (x ∷ []) in
      let was = has-items.offered in
      let left = ap (λ (u : SeatPlace). u.left) h.rest in
      let all = ap (λ (u : SeatPlace). u.room) h.rest in
      omega (arith, many, was, left, all, room)

  untraced-made : is_traced s.plan x.item ≡ false
      → CpuInvariant s.plan (items ++ x ∷ []) t.next t.known.own (hits_of t.known) t.fired t.ring (λ b. saw t.known b ≡ true)
  untraced-made e =
      subst (λ r. CpuInvariant s.plan (items ++ x ∷ []) t.next t.known.own (hits_of t.known) t.fired r (λ b. saw t.known b ≡ true)) (sym ring-is)
      (kept-more s.plan items s.next s.known.own (hits_of s.known) s.fired s.ring (λ b. saw s.known b ≡ true) has-items.made x low t.next
      (let n = next-is in omega (arith, n))
      (hits_of t.known) h.hits t.fired h.lengths.1 h.grows t.known.own h.own (λ b. saw t.known b ≡ true) (λ b q. h.saw' b ∙ q)
      false (λ q. refl) (λ q. false_true (sym e ∙ q)) (λ q. false_true (sym e ∙ q)))

  pub untraced : is_traced s.plan x.item ≡ false → SeatHas s.plan (items ++ x ∷ []) t
  untraced e = record { made = untraced-made e; offered = one-more-offered }

  traced-made : is_traced s.plan x.item ≡ true → (on : Bool)
      → CpuInvariant s.plan (items ++ x ∷ []) t.next t.known.own (hits_of t.known) t.fired (ring_after t.plan on x.place t.ring)
      (λ b. saw (looked on t.known) b ≡ true)
  traced-made e on =
      subst (λ r. CpuInvariant s.plan (items ++ x ∷ []) t.next t.known.own (hits_of t.known) t.fired r (λ b. saw (looked on t.known) b ≡ true))
      (λ j. ring_after (sym plan-same j) on x.place (sym ring-is j))
      (kept-more s.plan items s.next s.known.own (hits_of s.known) s.fired s.ring (λ b. saw s.known b ≡ true) has-items.made x low t.next
      (let n = next-is in omega (arith, n))
      (hits_of t.known) h.hits t.fired h.lengths.1 h.grows t.known.own h.own (λ b. saw (looked on t.known) b ≡ true)
      (λ b q. looked-saw on t.known b (h.saw' b ∙ q))
      on (λ q. false_true (sym q ∙ e))
      (λ q own off. looked-off on t.known (own-same e ∙ own) off) (λ q own is-on. looked-on on t.known (own-same e ∙ own) is-on))

  pub traced : is_traced s.plan x.item ≡ true → (on : Bool) → SeatHas s.plan (items ++ x ∷ []) (looked_with t x.place on)
  traced e on = record { made = traced-made e on; offered = one-more-offered }

pub untraced-at : (plan : TracePlan) (items : List Stamped) (x : Stamped) (s s1 t : SeatPlace) → s.plan ≡ plan → s.next ≤ x.place → 0 < s.left
    → SeatHas plan items s → s1 ≡ passed s x.place
    → HitFor x s1 t (length plan.triggers) → is_traced plan x.item ≡ false → SeatHas plan (items ++ x ∷ []) t
untraced-at plan items x s s1 t own low room k is h e =
    subst (λ p. SeatHas p (items ++ x ∷ []) t) own
    (untraced items x s t low (subst (λ p. SeatHas p items s) (sym own) k) room
    (subst (λ (z : SeatPlace × TracePlan). HitFor x z.0 t (length z.1.triggers)) (λ j. (is j, sym own j)) h)
    (ap (λ p. is_traced p x.item) own ∙ e))

pub traced-at : (plan : TracePlan) (items : List Stamped) (x : Stamped) (s s1 t u : SeatPlace) → s.plan ≡ plan → s.next ≤ x.place → 0 < s.left
    → SeatHas plan items s → s1 ≡ passed s x.place
    → HitFor x s1 t (length plan.triggers) → is_traced plan x.item ≡ true → ((on : Bool) × (u ≡ looked_with t x.place on))
    → SeatHas plan (items ++ x ∷ []) u
traced-at plan items x s s1 t u own low room k is h e looks =
    subst (λ (z : TracePlan × SeatPlace). SeatHas z.0 (items ++ x ∷ []) z.1) (λ j. (own j, sym looks.1 j))
    (traced items x s t low (subst (λ p. SeatHas p items s) (sym own) k) room
    (subst (λ (z : SeatPlace × TracePlan). HitFor x z.0 t (length z.1.triggers)) (λ j. (is j, sym own j)) h)
    (ap (λ p. is_traced p x.item) own ∙ e) looks.0)
