-- What the CPUs have made of their items makes legal rings.
use Rattle.std.proofs.Common.{◌≡◌, ◌≢◌, ℕ, ◌<◌, Bool, true, false, List, [], ◌∷◌, ◌++◌, length, ⊎_elim, refl, sym, ap, ◌∙◌, subst, arith, Option, Some, None}
use Rattle.std.specs.Prelude.{◌||◌, slice_get}
use Rattle.std.specs.List.{AllByRecursion as Each}
use Rattle.ft_base.proofs.Small.{false_true, Each-weaker, ==-refl}
use Rattle.ft_base.specs.declared.item.Item.{Item}
use Rattle.ft_base.specs.declared.item.Stamped.{Stamped}
use Rattle.ring_rules.specs.Plan.{IsPlan, TracePlan}
use Rattle.ring_rules.specs.Hits.{has, is_hit, is_of_cpu, quota, trigger}
use Rattle.ring_rules.specs.Fold.{Ring, Rings}
use Rattle.ring_rules.specs.Legal.{AreFired, IsRing, OtherFired, RingsLegal, fired_at, items_on, own_after}
use Rattle.ring_rules.specs.RingInvariant.{FiredElsewhere, Gathers, CpuInvariant, IsOf, hits_on, total}
use Rattle.ring_rules.proofs.OneMore.{own-same}
use Rattle.ring_rules.proofs.Lists.{each-front}
use Rattle.ring_rules.proofs.OnCpus.{Stands, each-stands, hit-stands, hits-all, on-apart}
use Rattle.ring_rules.proofs.Totals.{same-or, total-same}

-- the value, if there is one
abbrev value_or : {A : Type 0} → A → Option A → A
value_or d None = d
value_or d (Some x) = x

pub same-value : {A : Type 0} (o : Option A) (x y : A) → o ≡ Some x → o ≡ Some y → x ≡ y
same-value o x y e d = ap (value_or x) (sym e ∙ d)

-- a list that is not empty has a place
has-some : (ps : List ℕ) → 0 < length ps → (p : ℕ) × (has ps p ≡ true)
has-some [] lt = absurd (omega (arith, lt))
has-some (p ∷ ps) lt = (p, ap (λ b. b || has ps p) (==-refl p))

module _ (plan : TracePlan) (is : IsPlan plan) (h : List Item) (of : IsOf plan h)
    (next : ℕ → ℕ) (own : ℕ → Bool) (hits : ℕ → ℕ → ℕ) (fired : ℕ → List (List ℕ)) (ring : ℕ → Ring) (saw : ℕ → Bool → Type 0)
    (kept : (c : ℕ) → c < plan.cpus → CpuInvariant plan (items_on plan c h) (next c) (own c) (hits c) (fired c) (ring c) (saw c)) where
  -- a fired place of a CPU stands in the history
  pub fired-stands : (c i p : ℕ) → c < plan.cpus → i < length plan.triggers → has (fired_at (fired c) i) p ≡ true
      → (x : Item) × (slice_get h p ≡ Some x) × (is_hit (trigger plan i) x ≡ true) × (is_of_cpu plan c x ≡ true)
  fired-stands c i p inside within e =
      let f = hit-stands plan c 0 (trigger plan i) p h ((kept c inside).places i p within e) in
      let same : f.0 ≡ p = (let s = f.2 in omega (arith, s)) in
      (f.1, subst (λ n. slice_get h n ≡ Some f.1) same f.3, f.4, f.5)

  -- two CPUs have no fired place in common
  pub fired-apart : (c d i j p : ℕ) → c < plan.cpus → d < plan.cpus → i < length plan.triggers → j < length plan.triggers
      → has (fired_at (fired c) i) p ≡ true → has (fired_at (fired d) j) p ≡ true → d ≢ c → ⊥
  fired-apart c d i j p ic id wi wj e f ne =
      let x = fired-stands c i p ic wi e in
      let y = fired-stands d j p id wj f in
      let same = same-value (slice_get h p) y.0 x.0 y.1 x.1 in
      false_true (sym (on-apart plan c d x.0 ne (subst (λ z. is_of_cpu plan d z ≡ true) same y.3)) ∙ x.3)

  module _ (others : (c : ℕ) → c < plan.cpus → (b : Bool) → saw c b → FiredElsewhere plan fired c b)
      (quotas : (i : ℕ) → i < length plan.triggers
      → total plan.cpus (λ c. length (fired_at (fired c) i)) ≡ quota (trigger plan i).limit (total plan.cpus (λ c. hits c i)))
      (rings : Rings) (cpus : length rings.cpus ≡ plan.cpus) (each : (c : ℕ) → c < plan.cpus → slice_get rings.cpus c ≡ Some (ring c))
      (triggers : length rings.fired ≡ length plan.triggers)
      (all : (i : ℕ) → i < length plan.triggers → Gathers plan.cpus (λ c. fired_at (fired c) i) (fired_at rings.fired i)) where
    other-fired : (c : ℕ) → c < plan.cpus → (b : Bool) → saw c b → OtherFired plan h rings.fired c b
    other-fired c inside b s =
        let o = others c inside b s in
        let p = has-some (fired_at (fired o.cpu) o.trigger') o.some in
        let x = fired-stands o.cpu o.trigger' p.0 o.inside o.within p.1 in
        record {
          trigger' = o.trigger';
          within = o.within;
          switches = o.switches;
          place = p.0;
          item = x.0;
          fired' = (all o.trigger' o.within).each o.cpu p.0 o.inside p.1;
          stands = x.1;
          other = on-apart plan c o.cpu x.0 o.apart x.3;
        }

    -- of an item of c: it is a fired place of c exactly if it is one of all
    same-fired : (c : ℕ) → c < plan.cpus → (y : Stamped) → Stands plan c 0 h y → (i : ℕ) → i < length plan.triggers
        → has (fired_at (fired c) i) y.place ≡ has (fired_at rings.fired i) y.place
    same-fired c inside y st i within = by (has (fired_at (fired c) i) y.place) refl
      where
        not-all : (b : Bool) → has (fired_at rings.fired i) y.place ≡ b → has (fired_at (fired c) i) y.place ≡ false → b ≡ false
        not-all false e never = refl
        not-all true e never =
            let f = (all i within).from y.place e in
            let x = fired-stands f.0 i y.place f.1 within f.2 in
            let at : y.place ≡ st.0 = (let s = st.1 in omega (arith, s)) in
            let same : x.0 ≡ y.item = same-value (slice_get h y.place) x.0 y.item x.1 (ap (slice_get h) at ∙ st.2) in
            ⊎_elim
            (λ (q : f.0 ≡ c). false_true (sym never ∙ subst (λ d. has (fired_at (fired d) i) y.place ≡ true) q f.2))
            (λ (ne : f.0 ≢ c). false_true (sym (on-apart plan c f.0 x.0 ne x.3) ∙ ap (is_of_cpu plan c) same ∙ st.3))
            (same-or f.0 c)

        by : (b : Bool) → has (fired_at (fired c) i) y.place ≡ b → b ≡ has (fired_at rings.fired i) y.place
        by true e = sym ((all i within).each c y.place inside e)
        by false e = sym (not-all (has (fired_at rings.fired i) y.place) refl e)

    -- the own switch is the same
    own-is : (c : ℕ) → c < plan.cpus → (before after : List Stamped) → items_on plan c h ≡ before ++ after
        → own_after plan (fired c) before ≡ own_after plan rings.fired before
    own-is c inside before after cut =
        let st = subst (Each (Stands plan c 0 h)) cut (each-stands plan c 0 h) in
        own-same plan (fired c) rings.fired before plan.tracing
        (Each-weaker (Stands plan c 0 h) (λ y. (i : ℕ) → i < length plan.triggers
        → has (fired_at (fired c) i) y.place ≡ has (fired_at rings.fired i) y.place) before
        (same-fired c inside) (each-front (Stands plan c 0 h) before after st))

    ring-is : (c : ℕ) → c < plan.cpus → IsRing plan h rings c
    ring-is c inside =
        let k = kept c inside in
        record {
          written = k.written;
          some_of = k.some_of;
          keeps = each c inside ∙ ap (λ r. Some r) k.keeps;
          missed = λ before after x cut traced on not-in.
              other-fired c inside false (k.missed before after x cut traced (own-is c inside before (x ∷ after) cut ∙ on) not-in);
          extra = λ before after x cut traced off is-in.
              other-fired c inside true (k.extra before after x cut traced (own-is c inside before (x ∷ after) cut ∙ off) is-in);
        }

    fired-is : (i : ℕ) → i < length plan.triggers → AreFired h (trigger plan i) (fired_at rings.fired i)
    fired-is i within = record {
      times = (all i within).times ∙ quotas i within
          ∙ ap (quota (trigger plan i).limit)
          (total-same plan.cpus (λ c. hits c i) (λ c. hits_on (trigger plan i) (items_on plan c h)) (λ c lt. (kept c lt).hits' i within)
          ∙ hits-all plan is (trigger plan i) 0 h of);
      hits = λ p e. (let f = (all i within).from p e in let x = fired-stands f.0 i p f.1 within f.2 in (x.0, x.1, x.2));
      once = (all i within).once;
    }

    pub assembled : RingsLegal plan h rings
    assembled = record { cpus = cpus; triggers = triggers; ring = ring-is; fired = fired-is }
