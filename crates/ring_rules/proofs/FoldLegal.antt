-- The rings of a history that is gone through by place are legal.
use Rattle.std.proofs.Common.{◌≡◌, ◌⊎◌, ℕ, zero, suc, ◌+◌, ◌<◌, Bool, true, false, List, [], ◌∷◌, ◌++◌, length, set, replicate, inl, inr, ⊎_elim, cond, refl, sym, ap, ◌∙◌, subst, arith, append_assoc, length-append, length-set, get_or-set_same, get_or-set_other, Some}
use Rattle.std.specs.Prelude.{◌==◌, ◌&&◌, ◌||◌, ◌-◌, slice_get, slice_index, slice_index_or}
use Rattle.std.proofs.lemmas.List.{append-nil, length-replicate}
use Rattle.ft_base.proofs.Small.{false_true, and_both, or-true_either, ==-refl}
use Rattle.ft_base.specs.Items.{call_of}
use Rattle.ft_base.specs.declared.item.Item.{Item}
use Rattle.ft_base.specs.declared.item.Item.TheVariants.{Back}
use Rattle.ft_base.specs.declared.item.Stamped.{Stamped}
use Rattle.ring_rules.specs.Plan.{TracePlan}
use Rattle.ring_rules.specs.Hits.{fires, has, hits_in, is_hit, is_of_cpu, is_traced, quota, stamp, trigger}
use Rattle.ring_rules.specs.Fold.{Ring, Tracing, at_start, cpu_of_call, fold, after_item, after_items, hit_all, no_ring, write, written_at}
use Rattle.ring_rules.specs.Legal.{AreFired, EachOnce, OtherFired, RingsLegal, fired_at, has_fired, items_on, own_after, switched}
use Rattle.ring_rules.specs.RingInvariant.{Grows, RingInvariant, ring_after}
use Rattle.ring_rules.proofs.OneMore.{ring-more, ring-same}
use Rattle.ring_rules.proofs.Lists.{bool_cases, drop-none, equal, get-below, get-last, get-more, get-some, has-snoc, not-nil, once-snoc}
use Rattle.ring_rules.proofs.Numbers.{at-zero, at-none, no-quota, num, plus-none, plus-one, quota-next}
use Rattle.ring_rules.proofs.OnCpus.{hits-more, items-more}
use Rattle.ring_rules.proofs.HitAll.{HitTo, hit-to, no-switch, switched-by}

-- the CPU of an entry callback
traced-cpu : (plan : TracePlan) (item : Item) → is_traced plan item ≡ true → (c : ℕ) → is_of_cpu plan c item ≡ (cpu_of_call plan (call_of item) == c)
traced-cpu plan (Back call u) e c = refl
traced-cpu plan _ e c = false_true e

-- what the fold keeps after some items
record FoldInvariant (plan : TracePlan) (past : List Item) (s : Tracing) : Type 0 where
  hits : (i : ℕ) → i < length plan.triggers → slice_index s.hits i ≡ hits_in (trigger plan i) past
  lengths : (length s.hits ≡ length plan.triggers) × (length s.rings.fired ≡ length plan.triggers) × (length s.rings.cpus ≡ plan.cpus)
  fired : (i : ℕ) → i < length plan.triggers → AreFired past (trigger plan i) (fired_at s.rings.fired i)
  agrees : (c : ℕ) → c < plan.cpus → (s.on ≡ own_after plan s.rings.fired (items_on plan c past)) ⊎ OtherFired plan past s.rings.fired c s.on
  rings : (c : ℕ) → c < plan.cpus
      → RingInvariant plan (items_on plan c past) (length past) (own_after plan s.rings.fired (items_on plan c past)) s.rings.fired
      (slice_index_or s.rings.cpus c no_ring)
      (OtherFired plan past s.rings.fired c)

module _ (plan : TracePlan) (past : List Item) (s : Tracing) (k : FoldInvariant plan past s) (item : Item) where
  abbrev p : ℕ
  p = length past

  abbrev x : Stamped
  x = stamp (length past) item

  abbrev n : ℕ
  n = length plan.triggers

  abbrev s1 : Tracing
  s1 = hit_all plan (length past) item (length plan.triggers) s

  abbrev fired' : List (List ℕ)
  fired' = s1.rings.fired

  fresh : (i : ℕ) → i < length plan.triggers → has (fired_at s.rings.fired i) (length past) ≡ false
  fresh i small = by (has (fired_at s.rings.fired i) (length past)) refl
    where
      by : (b : Bool) → has (fired_at s.rings.fired i) (length past) ≡ b → b ≡ false
      by false e = refl
      by true e = let f = (k.fired i small).hits (length past) e in let lt = get-below past f.0 (length past) f.1 in absurd (omega (arith, lt))

  h : HitTo plan x s s1 (length plan.triggers)
  h = hit-to plan x s (length plan.triggers) (let l = k.lengths.0 in omega (arith, l)) (let l = k.lengths.1 in omega (arith, l)) fresh

  grows : Grows plan x s.rings.fired fired'
  grows i small =
      ⊎_elim
      (λ e. inr ((and_both (is_hit (trigger plan i) item) (fires (trigger plan i).limit (slice_index s.hits i)) e).0, h.one i small e))
      (λ e. inl (h.none i small e))
      (bool_cases (is_hit (trigger plan i) item && fires (trigger plan i).limit (slice_index s.hits i)))

  has-more : (i q : ℕ) → i < length plan.triggers → has (fired_at s.rings.fired i) q ≡ true → has (fired_at fired' i) q ≡ true
  has-more i q small e =
      ⊎_elim
      (λ same. ap (λ l. has l q) same ∙ e)
      (λ (t : (is_hit (trigger plan i) item ≡ true) × (fired_at fired' i ≡ fired_at s.rings.fired i ++ length past ∷ [])).
      ap (λ l. has l q) t.1 ∙ has-snoc (fired_at s.rings.fired i) (length past) q ∙ ap (λ b. b || (length past == q)) e)
      (grows i small)

  others-more : (c : ℕ) (b : Bool) → OtherFired plan past s.rings.fired c b → OtherFired plan (past ++ item ∷ []) fired' c b
  others-more c b o = record {
    trigger' = o.trigger';
    within = o.within;
    switches = o.switches;
    place = o.place;
    item = o.item;
    fired' = has-more o.trigger' o.place o.within o.fired';
    stands = get-more past item o.item o.place o.stands;
    other = o.other;
  }

  -- the fired places
  fired-more : (i : ℕ) → i < length plan.triggers → AreFired (past ++ item ∷ []) (trigger plan i) (fired_at fired' i)
  fired-more i small = record {
    times = count-more
        ∙ ap (λ m. m + num (is_hit (trigger plan i) item && fires (trigger plan i).limit (slice_index s.hits i))) (k.fired i small).times
        ∙ sym (quota-more (is_hit (trigger plan i) item) refl)
        ∙ ap (quota (trigger plan i).limit) (sym (hits-more (trigger plan i) past item));
    hits = λ q e.
        ⊎_elim
        (λ same. old q (sym (ap (λ l. has l q) same) ∙ e))
        (λ (t : (is_hit (trigger plan i) item ≡ true) × (fired_at fired' i ≡ fired_at s.rings.fired i ++ length past ∷ [])).
        ⊎_elim (λ was. old q was)
        (λ now. (item, subst (λ m. slice_get (past ++ item ∷ []) m ≡ Some item) (equal (length past) q now) (get-last past item), t.0))
        (or-true_either (has (fired_at s.rings.fired i) q) (length past == q) (sym (has-snoc (fired_at s.rings.fired i) (length past) q)
        ∙ sym (ap (λ l. has l q) t.1) ∙ e)))
        (grows i small);
    once = ⊎_elim
        (λ same. subst EachOnce (sym same) (k.fired i small).once)
        (λ (t : (is_hit (trigger plan i) item ≡ true) × (fired_at fired' i ≡ fired_at s.rings.fired i ++ length past ∷ [])).
        subst EachOnce (sym t.1) (once-snoc (fired_at s.rings.fired i) (length past) (k.fired i small).once (fresh i small)))
        (grows i small);
  }
    where
      old : (q : ℕ) → has (fired_at s.rings.fired i) q ≡ true
          → (y : Item) × (slice_get (past ++ item ∷ []) q ≡ Some y) × (is_hit (trigger plan i) y ≡ true)
      old q e = let f = (k.fired i small).hits q e in (f.0, get-more past item f.0 q f.1, f.2)

      count-more : length (fired_at fired' i)
          ≡ length (fired_at s.rings.fired i) + num (is_hit (trigger plan i) item && fires (trigger plan i).limit (slice_index s.hits i))
      count-more =
          ⊎_elim
          (λ e. ap length (h.one i small e)
          ∙ (let a = length-append (fired_at s.rings.fired i) (length past ∷ []) in let z : num true ≡ 1 = refl in
          let m : length (fired_at s.rings.fired i ++ length past ∷ []) ≡ length (fired_at s.rings.fired i) + num true = omega (arith, a, z) in m)
          ∙ ap (λ b. length (fired_at s.rings.fired i) + num b) (sym e))
          (λ e. ap length (h.none i small e) ∙ plus-none (length (fired_at s.rings.fired i))
          ∙ ap (λ b. length (fired_at s.rings.fired i) + num b) (sym e))
          (bool_cases (is_hit (trigger plan i) item && fires (trigger plan i).limit (slice_index s.hits i)))

      quota-more : (b : Bool) → is_hit (trigger plan i) item ≡ b
          → quota (trigger plan i).limit (hits_in (trigger plan i) past + num b)
          ≡ quota (trigger plan i).limit (hits_in (trigger plan i) past) + num (b && fires (trigger plan i).limit (slice_index s.hits i))
      quota-more true e =
          ap (quota (trigger plan i).limit) (sym (plus-one (hits_in (trigger plan i) past)))
          ∙ quota-next (trigger plan i).limit (hits_in (trigger plan i) past)
          ∙ ap (λ m. quota (trigger plan i).limit (hits_in (trigger plan i) past) + num (fires (trigger plan i).limit m)) (sym (k.hits i small))
      quota-more false e =
          ap (quota (trigger plan i).limit) (sym (plus-none (hits_in (trigger plan i) past)))
          ∙ plus-none (quota (trigger plan i).limit (hits_in (trigger plan i) past))

  -- the own switch of a CPU, and its ring
  abbrev own : ℕ → Bool
  own c = own_after plan s.rings.fired (items_on plan c past)

  abbrev now : Bool
  now = is_traced plan item && s1.on

  items-on : (c : ℕ) → is_of_cpu plan c item ≡ true → items_on plan c (past ++ item ∷ []) ≡ items_on plan c past ++ x ∷ []
  items-on c e = items-more plan c 0 past item
      ∙ ap (λ b. cond b (items_on plan c past ++ stamp (0 + length past) item ∷ []) (items_on plan c past)) e
      ∙ ap (λ m. items_on plan c past ++ stamp m item ∷ []) (let z : 0 + length past ≡ length past = omega arith in z)

  items-off : (c : ℕ) → is_of_cpu plan c item ≡ false → items_on plan c (past ++ item ∷ []) ≡ items_on plan c past
  items-off c e = items-more plan c 0 past item
      ∙ ap (λ b. cond b (items_on plan c past ++ stamp (0 + length past) item ∷ []) (items_on plan c past)) e

  ring-off : (c : ℕ) → c < plan.cpus → is_of_cpu plan c item ≡ false
      → RingInvariant plan (items_on plan c (past ++ item ∷ [])) (length (past ++ item ∷ [])) (own c) fired' (slice_index_or s.rings.cpus c no_ring)
      (OtherFired plan (past ++ item ∷ []) fired' c)
  ring-off c lt e =
      subst (λ l. RingInvariant plan l (length (past ++ item ∷ [])) (own c) fired' (slice_index_or s.rings.cpus c no_ring)
      (OtherFired plan (past ++ item ∷ []) fired' c)) (sym (items-off c e))
      (ring-same plan (items_on plan c past) (length past) (own c) s.rings.fired (slice_index_or s.rings.cpus c no_ring)
      (OtherFired plan past s.rings.fired c) (k.rings c lt) x
      (omega arith) (length (past ++ item ∷ [])) (let a = length-append past (item ∷ []) in omega (arith, a)) fired' grows
      (OtherFired plan (past ++ item ∷ []) fired' c) (others-more c))

  -- tracing and a switch that the item's triggers make
  abbrev made : Bool → Bool
  made on = switched plan fired' x (length plan.triggers) on

  agrees-on : (c : ℕ) → c < plan.cpus → (s1.on ≡ made (own c)) ⊎ OtherFired plan (past ++ item ∷ []) fired' c s1.on
  agrees-on c lt =
      ⊎_elim
      (λ (none : (on : Bool) → made on ≡ on).
      ⊎_elim (λ same. inl (h.on' ∙ none s.on ∙ same ∙ sym (none (own c))))
      (λ o. inr (subst (OtherFired plan (past ++ item ∷ []) fired' c) (sym (h.on' ∙ none s.on)) (others-more c s.on o)))
      (k.agrees c lt))
      (λ (one : (i : ℕ) × (i < length plan.triggers) × (has_fired plan fired' x i ≡ true) × ((on : Bool) → (trigger plan i).on ≡ made on)).
      inl (h.on' ∙ sym (one.3 s.on) ∙ one.3 (own c)))
      (switched-by plan fired' x (length plan.triggers))

  agrees-off : (c : ℕ) → c < plan.cpus → is_of_cpu plan c item ≡ false → (s1.on ≡ own c) ⊎ OtherFired plan (past ++ item ∷ []) fired' c s1.on
  agrees-off c lt e =
      ⊎_elim
      (λ (none : (on : Bool) → made on ≡ on).
      ⊎_elim (λ same. inl (h.on' ∙ none s.on ∙ same))
      (λ o. inr (subst (OtherFired plan (past ++ item ∷ []) fired' c) (sym (h.on' ∙ none s.on)) (others-more c s.on o)))
      (k.agrees c lt))
      (λ (one : (i : ℕ) × (i < length plan.triggers) × (has_fired plan fired' x i ≡ true) × ((on : Bool) → (trigger plan i).on ≡ made on)).
      inr record {
        trigger' = one.0;
        within = one.1;
        switches = one.3 s.on ∙ sym h.on';
        place = length past;
        item = item;
        fired' = (and_both (is_hit (trigger plan one.0) item) (has (fired_at fired' one.0) (length past)) one.2).1;
        stands = get-last past item;
        other = e;
      })
      (switched-by plan fired' x (length plan.triggers))

  ring-on : (c : ℕ) → c < plan.cpus → is_of_cpu plan c item ≡ true
      → RingInvariant plan (items_on plan c (past ++ item ∷ [])) (length (past ++ item ∷ [])) (made (own c)) fired'
      (ring_after plan now (length past) (slice_index_or s.rings.cpus c no_ring))
      (OtherFired plan (past ++ item ∷ []) fired' c)
  ring-on c lt e =
      subst (λ l. RingInvariant plan l (length (past ++ item ∷ [])) (made (own c)) fired'
      (ring_after plan now (length past) (slice_index_or s.rings.cpus c no_ring))
      (OtherFired plan (past ++ item ∷ []) fired' c)) (sym (items-on c e))
      (ring-more plan (items_on plan c past) (length past) (own c) s.rings.fired (slice_index_or s.rings.cpus c no_ring)
      (OtherFired plan past s.rings.fired c) (k.rings c lt) x
      (omega arith) (length (past ++ item ∷ [])) (let a = length-append past (item ∷ []) in omega (arith, a)) fired' grows (made (own c)) refl
      (OtherFired plan (past ++ item ∷ []) fired' c) (others-more c) now (λ u. ap (λ b. b && s1.on) u) skipped taken)
    where
      on-is : is_traced plan item ≡ true → now ≡ s1.on
      on-is u = ap (λ b. b && s1.on) u

      skipped : is_traced plan item ≡ true → own c ≡ true → now ≡ false → OtherFired plan (past ++ item ∷ []) fired' c false
      skipped u mine off =
          ⊎_elim (λ same. false_true (sym off ∙ on-is u ∙ same ∙ no-switch plan fired' x (length plan.triggers) (own c) u ∙ mine))
          (λ o. subst (OtherFired plan (past ++ item ∷ []) fired' c) (sym (on-is u) ∙ off) o) (agrees-on c lt)

      taken : is_traced plan item ≡ true → own c ≡ false → now ≡ true → OtherFired plan (past ++ item ∷ []) fired' c true
      taken u mine is-on =
          ⊎_elim (λ same. false_true (sym mine ∙ sym (no-switch plan fired' x (length plan.triggers) (own c) u) ∙ sym same ∙ sym (on-is u) ∙ is-on))
          (λ o. subst (OtherFired plan (past ++ item ∷ []) fired' c) (sym (on-is u) ∙ is-on) o) (agrees-on c lt)

  -- the place is written, or isn't
  abbrev traced-if : Bool → Tracing
  traced-if b =
      cond b (record { on = s1.on; hits = s1.hits; rings = written_at plan (length past) (cpu_of_call plan (call_of item)) s1.rings }) s1

  -- after the item
  abbrev s2 : Tracing
  s2 = after_item plan (length past) item s

  cpus-none : now ≡ false → s2.rings.cpus ≡ s.rings.cpus
  cpus-none e = ap (λ b. (traced-if b).rings.cpus) e ∙ h.cpus

  cpus-one : now ≡ true → s2.rings.cpus ≡ set s.rings.cpus (cpu_of_call plan (call_of item))
      (write plan.ring (length past) (slice_index_or s.rings.cpus (cpu_of_call plan (call_of item)) no_ring))
  cpus-one e =
      ap (λ b. (traced-if b).rings.cpus) e
      ∙ ap (λ l. set l (cpu_of_call plan (call_of item))
      (write plan.ring (length past) (slice_index_or l (cpu_of_call plan (call_of item)) no_ring))) h.cpus

  ring-at-on : (c : ℕ) → c < plan.cpus → is_of_cpu plan c item ≡ true
      → slice_index_or s2.rings.cpus c no_ring ≡ ring_after plan now (length past) (slice_index_or s.rings.cpus c no_ring)
  ring-at-on c lt e =
      ⊎_elim
      (λ (w : now ≡ true).
      let u = (and_both (is_traced plan item) s1.on w).0 in
      let at : cpu_of_call plan (call_of item) ≡ c = equal (cpu_of_call plan (call_of item)) c (sym (traced-cpu plan item u c) ∙ e) in
      ap (λ l. slice_index_or l c no_ring) (cpus-one w)
      ∙ ap (λ m. slice_index_or (set s.rings.cpus m (write plan.ring (length past) (slice_index_or s.rings.cpus m no_ring))) c no_ring) at
      ∙ get_or-set_same s.rings.cpus c (write plan.ring (length past) (slice_index_or s.rings.cpus c no_ring)) no_ring
      (let l = k.lengths.2 in omega (arith, l, lt))
      ∙ sym (ap (λ b. ring_after plan b (length past) (slice_index_or s.rings.cpus c no_ring)) w))
      (λ (w : now ≡ false). ap (λ l. slice_index_or l c no_ring) (cpus-none w)
      ∙ sym (ap (λ b. ring_after plan b (length past) (slice_index_or s.rings.cpus c no_ring)) w))
      (bool_cases now)

  ring-at-off : (c : ℕ) → is_of_cpu plan c item ≡ false → slice_index_or s2.rings.cpus c no_ring ≡ slice_index_or s.rings.cpus c no_ring
  ring-at-off c e =
      ⊎_elim
      (λ (w : now ≡ true).
      let u = (and_both (is_traced plan item) s1.on w).0 in
      ap (λ l. slice_index_or l c no_ring) (cpus-one w)
      ∙ get_or-set_other s.rings.cpus (cpu_of_call plan (call_of item)) c
      (write plan.ring (length past) (slice_index_or s.rings.cpus (cpu_of_call plan (call_of item)) no_ring)) no_ring
      (λ q. false_true (sym (sym (traced-cpu plan item u c) ∙ e) ∙ ap (λ m. m == c) (sym q) ∙ ==-refl c)))
      (λ (w : now ≡ false). ap (λ l. slice_index_or l c no_ring) (cpus-none w))
      (bool_cases now)

  on-is : s2.on ≡ s1.on
  on-is = by now
    where
      by : (b : Bool) → (traced-if b).on ≡ s1.on
      by true = refl
      by false = refl

  hits-is : s2.hits ≡ s1.hits
  hits-is = by now
    where
      by : (b : Bool) → (traced-if b).hits ≡ s1.hits
      by true = refl
      by false = refl

  fired-is : s2.rings.fired ≡ fired'
  fired-is = by now
    where
      by : (b : Bool) → (traced-if b).rings.fired ≡ s1.rings.fired
      by true = refl
      by false = refl

  cpus-count : length s2.rings.cpus ≡ length s.rings.cpus
  cpus-count =
      ⊎_elim
      (λ (w : now ≡ true). ap length (cpus-one w)
      ∙ length-set s.rings.cpus (cpu_of_call plan (call_of item))
      (write plan.ring (length past) (slice_index_or s.rings.cpus (cpu_of_call plan (call_of item)) no_ring)))
      (λ (w : now ≡ false). ap length (cpus-none w))
      (bool_cases now)

  -- with the own switch as it is
  with-own : (c : ℕ) (o : Bool) (r : Ring)
      → RingInvariant plan (items_on plan c (past ++ item ∷ [])) (length (past ++ item ∷ [])) o fired' r (OtherFired plan (past ++ item ∷ []) fired' c)
      → RingInvariant plan (items_on plan c (past ++ item ∷ [])) (length (past ++ item ∷ []))
      (own_after plan fired' (items_on plan c (past ++ item ∷ []))) fired' r (OtherFired plan (past ++ item ∷ []) fired' c)
  with-own c o r g =
      subst (λ b. RingInvariant plan (items_on plan c (past ++ item ∷ [])) (length (past ++ item ∷ [])) b fired' r
      (OtherFired plan (past ++ item ∷ []) fired' c)) g.own' g

  kept-goes : FoldInvariant plan (past ++ item ∷ []) s2
  kept-goes = record {
    hits = λ i small.
        ap (λ l. slice_index l i) hits-is ∙ h.hits i small ∙ ap (λ m. m + num (is_hit (trigger plan i) item)) (k.hits i small)
        ∙ sym (hits-more (trigger plan i) past item);
    lengths = (ap length hits-is ∙ h.lengths.0 ∙ k.lengths.0, ap length fired-is ∙ h.lengths.1 ∙ k.lengths.1, cpus-count ∙ k.lengths.2);
    fired = λ i small. subst (λ f. AreFired (past ++ item ∷ []) (trigger plan i) (fired_at f i)) (sym fired-is) (fired-more i small);
    agrees = λ c lt.
        subst (λ (z : Bool × List (List ℕ)). (z.0 ≡ own_after plan z.1 (items_on plan c (past ++ item ∷ []))) ⊎ OtherFired plan
        (past ++ item ∷ []) z.1 c z.0) (λ j. (sym on-is j, sym fired-is j))
        (⊎_elim
        (λ e. ⊎_elim (λ q. inl (q ∙ (ring-on c lt e).own')) (λ o. inr o) (agrees-on c lt))
        (λ e. ⊎_elim (λ q. inl (q ∙ (ring-off c lt e).own')) (λ o. inr o) (agrees-off c lt e))
        (bool_cases (is_of_cpu plan c item)));
    rings = λ c lt.
        subst
        (λ f.
        RingInvariant plan (items_on plan c (past ++ item ∷ [])) (length (past ++ item ∷ [])) (own_after plan f (items_on plan c (past ++ item ∷ []))) f
        (slice_index_or s2.rings.cpus c no_ring) (OtherFired plan (past ++ item ∷ []) f c))
        (sym fired-is)
        (⊎_elim
        (λ e. subst
        (λ r. RingInvariant plan (items_on plan c (past ++ item ∷ [])) (length (past ++ item ∷ []))
        (own_after plan fired' (items_on plan c (past ++ item ∷ []))) fired' r
        (OtherFired plan (past ++ item ∷ []) fired' c)) (sym (ring-at-on c lt e))
        (with-own c (made (own c)) (ring_after plan now (length past) (slice_index_or s.rings.cpus c no_ring)) (ring-on c lt e)))
        (λ e. subst
        (λ r. RingInvariant plan (items_on plan c (past ++ item ∷ [])) (length (past ++ item ∷ []))
        (own_after plan fired' (items_on plan c (past ++ item ∷ []))) fired' r
        (OtherFired plan (past ++ item ∷ []) fired' c)) (sym (ring-at-off c e))
        (with-own c (own c) (slice_index_or s.rings.cpus c no_ring) (ring-off c lt e)))
        (bool_cases (is_of_cpu plan c item)));
  }

-- ## all items

goes-on-kept : (plan : TracePlan) (past rest : List Item) (s : Tracing) → FoldInvariant plan past s
    → FoldInvariant plan (past ++ rest) (after_items plan (length past) rest s)
goes-on-kept plan past [] s k = subst (λ l. FoldInvariant plan l s) (sym (append-nil past)) k
goes-on-kept plan past (item ∷ rest) s k =
    let next = goes-on-kept plan (past ++ item ∷ []) rest (after_item plan (length past) item s) (kept-goes plan past s k item) in
    let more : length (past ++ item ∷ []) ≡ suc (length past) = (let a = length-append past (item ∷ []) in omega (arith, a)) in
    subst (λ (z : List Item × ℕ). FoldInvariant plan z.0 (after_items plan z.1 rest (after_item plan (length past) item s)))
    (λ j. (append_assoc past (item ∷ []) rest j, more j)) next

at-no-ring : (m c : ℕ) → slice_index_or (replicate m no_ring) c no_ring ≡ no_ring
at-no-ring zero c = refl
at-no-ring (suc m) zero = refl
at-no-ring (suc m) (suc c) = at-no-ring m c

start-kept : (plan : TracePlan) → FoldInvariant plan [] (at_start plan)
start-kept plan = record {
  hits = λ i small. at-zero (length plan.triggers) i;
  lengths = (length-replicate (length plan.triggers) 0, length-replicate (length plan.triggers) [], length-replicate plan.cpus no_ring);
  fired = λ i small. subst (AreFired [] (trigger plan i)) (sym (at-none (length plan.triggers) i))
      record { times = sym (no-quota (trigger plan i).limit); hits = λ q e. false_true e; once = tt };
  agrees = λ c lt. inl refl;
  rings = λ c lt. record {
    below = tt;
    own' = refl;
    written = [];
    some_of = refl;
    keeps = at-no-ring plan.cpus c ∙ (λ j. record { written = 0; held = sym (drop-none (0 - plan.ring)) j });
    missed = λ before after x e traced on not-in. not-nil before x after e;
    extra = λ before after x e traced off is-in. not-nil before x after e;
  };
}

pub fold-legal : (plan : TracePlan) (history : List Item) → RingsLegal plan history (fold plan history)
fold-legal plan history =
    let k = goes-on-kept plan [] history (at_start plan) (start-kept plan) in
    record {
      cpus = k.lengths.2;
      triggers = k.lengths.1;
      ring = λ c lt.
          let r = k.rings c lt in
          record {
            written = r.written;
            some_of = r.some_of;
            keeps = get-some (fold plan history).cpus c no_ring (let l = k.lengths.2 in omega (arith, l, lt)) ∙ ap (λ q. Some q) r.keeps;
            missed = r.missed;
            extra = r.extra;
          };
      fired = k.fired;
    }

-- each trigger was hit as often as items hit it
pub fold-hits : (plan : TracePlan) (history : List Item) (i : ℕ) → i < length plan.triggers
    → slice_index (after_items plan 0 history (at_start plan)).hits i ≡ hits_in (trigger plan i) history
fold-hits plan history i lt = (goes-on-kept plan [] history (at_start plan) (start-kept plan)).hits i lt

-- there are hits and a list for each trigger, and a ring for each CPU
pub fold-lengths : (plan : TracePlan) (history : List Item)
    → (length (after_items plan 0 history (at_start plan)).hits ≡ length plan.triggers)
    × (length (after_items plan 0 history (at_start plan)).rings.fired ≡ length plan.triggers)
    × (length (after_items plan 0 history (at_start plan)).rings.cpus ≡ plan.cpus)
fold-lengths plan history = (goes-on-kept plan [] history (at_start plan) (start-kept plan)).lengths
