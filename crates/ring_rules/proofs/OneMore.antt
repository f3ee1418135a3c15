-- One more item of a CPU, or of another one.
use Rattle.std.proofs.Common.{◌≡◌, ℕ, zero, suc, ◌+◌, ◌-◌, ◌<◌, ◌≤◌, Bool, true, false, List, [], ◌∷◌, ◌++◌, length, ⊎_elim, cond, refl, sym, ap, ◌∙◌, subst, arith, length-append}
use Rattle.std.specs.Prelude.{◌==◌, ◌||◌, ◌&&◌, if◌then◌else◌, drop}
use Rattle.std.proofs.Common.{length-drop, drop-drop}
use Rattle.std.proofs.lemmas.List.{drop-append-le}
use Rattle.std.specs.List.{AllByRecursion as Each}
use Rattle.ft_base.proofs.Small.{false_true, or-true, or-true_either, Each-snoc, Each-weaker}
use Rattle.ft_base.specs.declared.item.Stamped.{Stamped}
use Rattle.circular_buffer.specs.Buffer.{keep_last}
use Rattle.ring_rules.specs.Plan.{TracePlan}
use Rattle.ring_rules.specs.Hits.{has, is_hit, is_traced, trigger}
use Rattle.ring_rules.specs.Fold.{Ring, write}
use Rattle.ring_rules.specs.Legal.{EachOnce, IsSublist, fired_at, own_after, own_from, switched, traced_places}
use Rattle.ring_rules.specs.RingInvariant.{Grows, CpuInvariant, RingInvariant, hit_at, ring_after}
use Rattle.ring_rules.proofs.Lists.{any-snoc, bool_cases, each-front, each-middle, has-apart, has-last, has-snoc, hit_at-below, hits-snoc, once-snoc, snoc-cut, sub-has, sub-keep, sub-take, traced-below, traced-snoc}

-- ## the own switch

-- it is made by the fired places of the items alone
pub switched-same : (plan : TracePlan) (fired fired' : List (List ℕ)) (x : Stamped) (n : ℕ) (on : Bool)
    → ((i : ℕ) → i < n → has (fired_at fired i) x.place ≡ has (fired_at fired' i) x.place) → switched plan fired x n on ≡ switched plan fired' x n on
switched-same plan fired fired' x zero on same = refl
switched-same plan fired fired' x (suc n) on same =
    (λ j. cond (is_hit (trigger plan n) x.item && same n (omega arith) j) (trigger plan n).on
    (switched-same plan fired fired' x n on (λ i lt. same i (omega (arith, lt))) j))

pub own-same : (plan : TracePlan) (fired fired' : List (List ℕ)) (xs : List Stamped) (on : Bool)
    → Each (λ x. (i : ℕ) → i < length plan.triggers → has (fired_at fired i) x.place ≡ has (fired_at fired' i) x.place) xs
    → own_from plan fired xs on ≡ own_from plan fired' xs on
own-same plan fired fired' [] on same = refl
own-same plan fired fired' (x ∷ xs) on same =
    ap (own_from plan fired xs) (switched-same plan fired fired' x (length plan.triggers) on same.0)
    ∙ own-same plan fired fired' xs (switched plan fired' x (length plan.triggers) on) same.1

pub own-snoc : (plan : TracePlan) (fired : List (List ℕ)) (xs : List Stamped) (x : Stamped) (on : Bool)
    → own_from plan fired (xs ++ x ∷ []) on ≡ switched plan fired x (length plan.triggers) (own_from plan fired xs on)
own-snoc plan fired [] x on = refl
own-snoc plan fired (y ∷ ys) x on = own-snoc plan fired ys x (switched plan fired y (length plan.triggers) on)

-- the last of the last and of one more
pub keep-more : (n : ℕ) (ws : List ℕ) (p : ℕ) → keep_last n (keep_last n ws ++ p ∷ []) ≡ keep_last n (ws ++ p ∷ [])
keep-more n ws p =
    let a : ℕ = length ws - n in
    let inside : drop a ws ++ p ∷ [] ≡ drop a (ws ++ p ∷ []) = sym (drop-append-le a ws (p ∷ []) (omega arith)) in
    let long = length-drop a (ws ++ p ∷ []) in
    let all = length-append ws (p ∷ []) in
    ap (keep_last n) inside
    ∙ drop-drop (length (drop a (ws ++ p ∷ [])) - n) a (ws ++ p ∷ [])
    ∙ ap (λ m. drop m (ws ++ p ∷ [])) (omega (arith, long, all))

-- ## one more item

-- the items of before, the same list of written places or one more
abbrev written_after : Bool → List ℕ → ℕ → List ℕ
written_after now ws p = if now then ws ++ p ∷ [] else ws

-- the ring, of which the other CPUs' items may be noted too
module _ (plan : TracePlan) (items : List Stamped) (next : ℕ) (own : Bool) (fired : List (List ℕ)) (ring : Ring) (saw : Bool → Type 0)
    (k : RingInvariant plan items next own fired ring saw) (x : Stamped) (low : next ≤ x.place) (next' : ℕ) (high : x.place < next')
    (fired' : List (List ℕ)) (grows : Grows plan x fired fired')
    (own' : Bool) (own-is : own' ≡ switched plan fired' x (length plan.triggers) own)
    (saw' : Bool → Type 0) (more : (b : Bool) → saw b → saw' b)
    (now : Bool) (untraced : is_traced plan x.item ≡ false → now ≡ false)
    (skipped : is_traced plan x.item ≡ true → own ≡ true → now ≡ false → saw' false)
    (taken : is_traced plan x.item ≡ true → own ≡ false → now ≡ true → saw' true) where
  -- an earlier item has fired as before
  as-before : (y : Stamped) → y.place < next → (i : ℕ) → i < length plan.triggers → has (fired_at fired i) y.place ≡ has (fired_at fired' i) y.place
  as-before y lt i small =
      ⊎_elim (λ e. ap (λ l. has l y.place) (sym e))
      (λ (t : (is_hit (trigger plan i) x.item ≡ true) × (fired_at fired' i ≡ fired_at fired i ++ x.place ∷ [])).
      sym (ap (λ l. has l y.place) t.1 ∙ has-apart (fired_at fired i) x.place y.place (λ e. absurd (omega (arith, e, lt, low)))))
      (grows i small)

  own-before : (xs : List Stamped) → Each (λ y. y.place < next) xs → own_after plan fired xs ≡ own_after plan fired' xs
  own-before xs all = own-same plan fired fired' xs plan.tracing
      (Each-weaker (λ y. y.place < next) (λ y. (i : ℕ) → i < length plan.triggers → has (fired_at fired i) y.place ≡ has (fired_at fired' i) y.place)
      xs as-before all)

  written' : List ℕ
  written' = written_after now k.written x.place

  written-before : (p : ℕ) → has k.written p ≡ true → p < next
  written-before p h = traced-below plan next items p k.below (sub-has k.written (traced_places plan items) p k.some_of h)

  -- an earlier place was written before, or not
  same-written : (p : ℕ) → p < next → has written' p ≡ has k.written p
  unfolding written'
  same-written p lt = by now
    where
      by : (b : Bool) → has (written_after b k.written x.place) p ≡ has k.written p
      by true = has-apart k.written x.place p (λ e. absurd (omega (arith, e, lt, low)))
      by false = refl

  now-has : now ≡ true → has written' x.place ≡ true
  unfolding written'
  now-has e = ap (λ b. has (written_after b k.written x.place) x.place) e ∙ has-last k.written x.place

  has-now : has written' x.place ≡ true → now ≡ true
  unfolding written'
  has-now = by now
    where
      by : (b : Bool) → has (written_after b k.written x.place) x.place ≡ true → b ≡ true
      by true h = refl
      by false h = let lt = written-before x.place h in absurd (omega (arith, lt, low))

  not-now : has written' x.place ≡ false → now ≡ false
  not-now h = ⊎_elim (λ e. false_true (sym h ∙ now-has e)) (λ e. e) (bool_cases now)

  some-of : IsSublist written' (traced_places plan (items ++ x ∷ []))
  unfolding written'
  some-of = subst (IsSublist (written_after now k.written x.place)) (sym (traced-snoc plan items x)) (by now (is_traced plan x.item) untraced)
    where
      by : (b d : Bool) → (d ≡ false → b ≡ false)
          → IsSublist (written_after b k.written x.place) (cond d (traced_places plan items ++ x.place ∷ []) (traced_places plan items))
      by true true u = sub-take k.written (traced_places plan items) x.place k.some_of
      by true false u = false_true (sym (u refl))
      by false true u = sub-keep k.written (traced_places plan items) x.place k.some_of
      by false false u = k.some_of

  keeps' : ring_after plan now x.place ring ≡ record { written = length written'; held = keep_last plan.ring written' }
  unfolding written'
  keeps' = by now
    where
      by : (b : Bool) → ring_after plan b x.place ring
          ≡ record { written = length (written_after b k.written x.place); held = keep_last plan.ring (written_after b k.written x.place) }
      by true =
          ap (write plan.ring x.place) k.keeps
          ∙ (λ j. record {
            written = (let e = length-append k.written (x.place ∷ []) in let s : suc (length k.written)
                ≡ length (k.written ++ x.place ∷ []) = omega (arith, e) in s) j;
            held = keep-more plan.ring k.written x.place j;
          })
      by false = k.keeps

  missed' : (before after : List Stamped) (y : Stamped) → items ++ x ∷ [] ≡ before ++ y ∷ after → is_traced plan y.item ≡ true
      → own_after plan fired' before ≡ true → has written' y.place ≡ false → saw' false
  missed' before after y cut traced on not-in =
      ⊎_elim
      (λ (t : (before ≡ items) × (y ≡ x)).
      skipped (sym (ap (λ (z : Stamped). is_traced plan z.item) t.1) ∙ traced)
      (k.own' ∙ own-before items k.below ∙ sym (ap (own_after plan fired') t.0) ∙ on)
      (not-now (sym (ap (λ (z : Stamped). has written' z.place) t.1) ∙ not-in)))
      (λ (t : (rest : List Stamped) × (items ≡ before ++ y ∷ rest)).
      let all = subst (Each (λ z. z.place < next)) t.1 k.below in
      more false (k.missed before t.0 y t.1 traced
      (own-before before (each-front (λ z. z.place < next) before (y ∷ t.0) all) ∙ on)
      (sym (same-written y.place (each-middle (λ z. z.place < next) before y t.0 all)) ∙ not-in)))
      (snoc-cut items x before y after cut)

  extra' : (before after : List Stamped) (y : Stamped) → items ++ x ∷ [] ≡ before ++ y ∷ after → is_traced plan y.item ≡ true
      → own_after plan fired' before ≡ false → has written' y.place ≡ true → saw' true
  extra' before after y cut traced off is-in =
      ⊎_elim
      (λ (t : (before ≡ items) × (y ≡ x)).
      taken (sym (ap (λ (z : Stamped). is_traced plan z.item) t.1) ∙ traced)
      (k.own' ∙ own-before items k.below ∙ sym (ap (own_after plan fired') t.0) ∙ off)
      (has-now (sym (ap (λ (z : Stamped). has written' z.place) t.1) ∙ is-in)))
      (λ (t : (rest : List Stamped) × (items ≡ before ++ y ∷ rest)).
      let all = subst (Each (λ z. z.place < next)) t.1 k.below in
      more true (k.extra before t.0 y t.1 traced
      (own-before before (each-front (λ z. z.place < next) before (y ∷ t.0) all) ∙ off)
      (sym (same-written y.place (each-middle (λ z. z.place < next) before y t.0 all)) ∙ is-in)))
      (snoc-cut items x before y after cut)

  pub ring-more : RingInvariant plan (items ++ x ∷ []) next' own' fired' (ring_after plan now x.place ring) saw'
  ring-more = record {
    below = Each-snoc (λ y. y.place < next') items x
        (Each-weaker (λ y. y.place < next) (λ y. y.place < next') items (λ y lt. omega (arith, lt, low, high)) k.below) high;
    own' = own-is ∙ ap (switched plan fired' x (length plan.triggers)) (k.own' ∙ own-before items k.below)
        ∙ sym (own-snoc plan fired' items x plan.tracing);
    written = written';
    some_of = some-of;
    keeps = keeps';
    missed = missed';
    extra = extra';
  }

-- a ring to which an item of another CPU comes
pub ring-same : (plan : TracePlan) (items : List Stamped) (next : ℕ) (own : Bool) (fired : List (List ℕ)) (ring : Ring) (saw : Bool → Type 0)
    → RingInvariant plan items next own fired ring saw → (x : Stamped) → next ≤ x.place → (next' : ℕ) → x.place < next' → (fired' : List (List ℕ))
    → Grows plan x fired fired'
    → (saw' : Bool → Type 0) → ((b : Bool) → saw b → saw' b) → RingInvariant plan items next' own fired' ring saw'
ring-same plan items next own fired ring saw k x low next' high fired' grows saw' more = record {
  below = Each-weaker (λ y. y.place < next) (λ y. y.place < next') items (λ y lt. omega (arith, lt, low, high)) k.below;
  own' = k.own' ∙ same items k.below;
  written = k.written;
  some_of = k.some_of;
  keeps = k.keeps;
  missed = λ before after y cut traced on not-in.
      more false (k.missed before after y cut traced
      (same before (each-front (λ z. z.place < next) before (y ∷ after) (subst (Each (λ z. z.place < next)) cut k.below)) ∙ on) not-in);
  extra = λ before after y cut traced off is-in.
      more true (k.extra before after y cut traced
      (same before (each-front (λ z. z.place < next) before (y ∷ after) (subst (Each (λ z. z.place < next)) cut k.below)) ∙ off) is-in);
}
  where
    same : (xs : List Stamped) → Each (λ y. y.place < next) xs → own_after plan fired xs ≡ own_after plan fired' xs
    same xs all =
        own-same plan fired fired' xs plan.tracing
        (Each-weaker (λ y. y.place < next) (λ y. (i : ℕ) → i < length plan.triggers
        → has (fired_at fired i) y.place ≡ has (fired_at fired' i) y.place) xs
        (λ y lt i small.
        ⊎_elim (λ e. ap (λ l. has l y.place) (sym e))
        (λ (t : (is_hit (trigger plan i) x.item ≡ true) × (fired_at fired' i ≡ fired_at fired i ++ x.place ∷ [])).
        sym (ap (λ l. has l y.place) t.1 ∙ has-apart (fired_at fired i) x.place y.place (λ e. absurd (omega (arith, e, lt, low)))))
        (grows i small))
        all)

module _ (plan : TracePlan) (items : List Stamped) (next : ℕ) (own : Bool) (hits : ℕ → ℕ) (fired : List (List ℕ)) (ring : Ring) (saw : Bool → Type 0)
    (k : CpuInvariant plan items next own hits fired ring saw) (x : Stamped) (low : next ≤ x.place) (next' : ℕ) (next-is : next' ≡ suc x.place)
    (hits' : ℕ → ℕ) (hit : (i : ℕ) → i < length plan.triggers → hits' i ≡ hits i + (if is_hit (trigger plan i) x.item then 1 else 0))
    (fired' : List (List ℕ)) (count' : length fired' ≡ length fired) (grows : Grows plan x fired fired')
    (own' : Bool) (own-is : own' ≡ switched plan fired' x (length plan.triggers) own)
    (saw' : Bool → Type 0) (more : (b : Bool) → saw b → saw' b)
    (now : Bool) (untraced : is_traced plan x.item ≡ false → now ≡ false)
    (skipped : is_traced plan x.item ≡ true → own ≡ true → now ≡ false → saw' false)
    (taken : is_traced plan x.item ≡ true → own ≡ false → now ≡ true → saw' true) where
  high : x.place < next'
  high = omega (arith, next-is)

  abbrev ring-part : RingInvariant plan items next own fired ring saw
  ring-part = record { below = k.below; own' = k.own'; written = k.written; some_of = k.some_of; keeps = k.keeps; missed = k.missed; extra = k.extra }

  ring' : RingInvariant plan (items ++ x ∷ []) next' own' fired' (ring_after plan now x.place ring) saw'
  ring' = ring-more plan items next own fired ring saw ring-part x low next' high fired' grows own' own-is saw' more now untraced skipped taken

  places' : (i p : ℕ) → i < length plan.triggers → has (fired_at fired' i) p ≡ true → hit_at (trigger plan i) p (items ++ x ∷ []) ≡ true
  places' i p small h =
      any-snoc (λ (y : Stamped). (y.place == p) && is_hit (trigger plan i) y.item) items x
      ∙ ⊎_elim
      (λ e. ap (λ b. b || ((x.place == p) && is_hit (trigger plan i) x.item)) (k.places i p small (sym (ap (λ l. has l p) e) ∙ h)))
      (λ (t : (is_hit (trigger plan i) x.item ≡ true) × (fired_at fired' i ≡ fired_at fired i ++ x.place ∷ [])).
      ⊎_elim
      (λ old. ap (λ b. b || ((x.place == p) && is_hit (trigger plan i) x.item)) (k.places i p small old))
      (λ new. (λ j. hit_at (trigger plan i) p items || (new j && t.0 j)) ∙ or-true (hit_at (trigger plan i) p items))
      (or-true_either (has (fired_at fired i) p) (x.place == p) (sym (has-snoc (fired_at fired i) x.place p) ∙ sym (ap (λ l. has l p) t.1) ∙ h)))
      (grows i small)

  once' : (i : ℕ) → i < length plan.triggers → EachOnce (fired_at fired' i)
  once' i small =
      ⊎_elim (λ e. subst EachOnce (sym e) (k.once i small))
      (λ (t : (is_hit (trigger plan i) x.item ≡ true) × (fired_at fired' i ≡ fired_at fired i ++ x.place ∷ [])).
      subst EachOnce (sym t.1) (once-snoc (fired_at fired i) x.place (k.once i small) (new (has (fired_at fired i) x.place) refl)))
      (grows i small)
    where
      new : (b : Bool) → has (fired_at fired i) x.place ≡ b → b ≡ false
      new true e = let lt = hit_at-below (trigger plan i) next x.place items k.below (k.places i x.place small e) in absurd (omega (arith, lt, low))
      new false e = refl

  pub kept-more : CpuInvariant plan (items ++ x ∷ []) next' own' hits' fired' (ring_after plan now x.place ring) saw'
  kept-more = record {
    below = ring'.below;
    least = λ p all. (let lt = each-middle (λ y. y.place < p) items x [] all in omega (arith, lt, next-is));
    own' = ring'.own';
    hits' = λ i small. hit i small ∙ ap (λ n. n + (if is_hit (trigger plan i) x.item then 1 else 0)) (k.hits' i small)
        ∙ sym (hits-snoc (trigger plan i) items x);
    count = count' ∙ k.count;
    places = places';
    once = once';
    written = ring'.written;
    some_of = ring'.some_of;
    keeps = ring'.keeps;
    missed = ring'.missed;
    extra = ring'.extra;
  }
