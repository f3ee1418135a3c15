-- Where no other CPU has a fired hit that switches tracing off, a ring has all entry callbacks at which the own switch is on; where none has
-- one that switches it on, no others.
use Rattle.std.proofs.Common.{◌≡◌, ℕ, suc, ◌<◌, Bool, true, false, List, [], ◌∷◌, ◌++◌, length, ⊎_elim, inl, inr, cond, refl, sym, ap, ◌∙◌, subst, arith, Some}
use Rattle.std.specs.Prelude.{◌==◌, ◌||◌, ◌&&◌, slice_get}
use Rattle.std.specs.List.{AllByRecursion as Each}
use Rattle.ft_base.proofs.Small.{false_true, or-false_both, ==-refl, Each-weaker}
use Rattle.ft_base.specs.declared.item.Item.{Item}
use Rattle.ft_base.specs.declared.item.Stamped.{Stamped}
use Rattle.ring_rules.specs.Plan.{TracePlan}
use Rattle.ring_rules.specs.Fold.{Rings}
use Rattle.ring_rules.specs.Hits.{has, is_of_cpu, is_traced, stamp}
use Rattle.ring_rules.specs.Legal.{IsRing, IsSublist, OnlyOwnFired, OtherFired, RingsLegal, items_from, items_on, own_from, own_places, ring_with, switched, traced_places}
use Rattle.ring_rules.proofs.Lists.{apart, bool_cases, each-middle, sub-same}
use Rattle.ring_rules.proofs.OnCpus.{Stands, each-stands}

-- ## places increase

abbrev Increases : List Stamped → Type 0
Increases [] = Unit {0}
Increases (x ∷ xs) = Each (λ y. x.place < y.place) xs × Increases xs

increases : (plan : TracePlan) (c p : ℕ) (h : List Item) → Increases (items_from plan c p h)
increases plan c p [] = tt
increases plan c p (item ∷ rest) = by (increases plan c (suc p) rest) (is_of_cpu plan c item)
  where
    later : Each (λ y. p < y.place) (items_from plan c (suc p) rest)
    later =
        Each-weaker (Stands plan c (suc p) rest) (λ y. p < y.place) (items_from plan c (suc p) rest) (λ y s. let e = s.1 in omega (arith, e))
        (each-stands plan c (suc p) rest)

    by : Increases (items_from plan c (suc p) rest) → (b : Bool)
        → Increases (cond b (stamp p item ∷ items_from plan c (suc p) rest) (items_from plan c (suc p) rest))
    by up true = (later, up)
    by up false = up

-- a lower place is none of theirs
none-lower : (plan : TracePlan) (p : ℕ) (xs : List Stamped) → Each (λ y. p < y.place) xs → has (traced_places plan xs) p ≡ false
none-lower plan p [] all = refl
none-lower plan p (x ∷ xs) all = by (none-lower plan p xs all.1) (is_traced plan x.item)
  where
    by : has (traced_places plan xs) p ≡ false → (b : Bool) → has (cond b (x.place ∷ traced_places plan xs) (traced_places plan xs)) p ≡ false
    by none true = (λ j. apart x.place p (λ e. let lt = all.0 in absurd (omega (arith, e, lt))) j || none j)
    by none false = none

sub-lacks : (xs ys : List ℕ) (p : ℕ) → IsSublist xs ys → has ys p ≡ false → has xs p ≡ false
sub-lacks xs [] p s e = ap (λ l. has l p) s
sub-lacks xs (y ∷ ys) p s e =
    let both = or-false_both (y == p) (has ys p) e in
    ⊎_elim (λ a. sub-lacks xs ys p a both.1)
    (λ (b : (r : List ℕ) × (xs ≡ y ∷ r) × IsSublist r ys). ap (λ l. has l p) b.1 ∙ (λ j. both.0 j || sub-lacks b.0 ys p b.2 both.1 j)) s

-- ## written places

-- of each entry callback that was written, and of no other, the own switch says so
abbrev Says : TracePlan → List (List ℕ) → List Stamped → Bool → List ℕ → Bool → Type 0
Says plan fired items on written b =
    (before after : List Stamped) (x : Stamped) → items ≡ before ++ x ∷ after → is_traced plan x.item ≡ true → own_from plan fired before on ≡ b
    → has written x.place ≡ b

-- where all of those at which the own switch is on were written, they are among the written; where no others were, the written are among them
abbrev Between : TracePlan → List (List ℕ) → List Stamped → Bool → List ℕ → Type 0
Between plan fired xs on ws =
    (Says plan fired xs on ws true → IsSublist (own_places plan fired xs on) ws) × (Says plan fired xs on ws false → IsSublist ws (own_places plan fired xs on))

between : (plan : TracePlan) (fired : List (List ℕ)) (xs : List Stamped) (on : Bool) → Increases xs → (ws : List ℕ)
    → IsSublist ws (traced_places plan xs) → Between plan fired xs on ws
between plan fired [] on up ws sub = (λ says. subst (λ l. IsSublist [] l) (sym sub) refl, λ says. sub)
between plan fired (x ∷ xs) on up ws sub =
    by (between plan fired xs (switched plan fired x (length plan.triggers) on) up.1) (is_traced plan x.item) refl on refl sub
  where
    rest : (b : Bool) → Says plan fired (x ∷ xs) on ws b → Says plan fired xs (switched plan fired x (length plan.triggers) on) ws b
    rest b says before after y cut = says (x ∷ before) after y (ap (λ (l : List Stamped). x ∷ l) cut)

    -- what is said of the later places isn't said of x
    same : (ws' : List ℕ) → ws ≡ x.place ∷ ws' → (b : Bool) → Says plan fired (x ∷ xs) on ws b
        → Says plan fired xs (switched plan fired x (length plan.triggers) on) ws' b
    same ws' e b says before after y cut traced own =
        let lt = each-middle (λ z. x.place < z.place) before y after (subst (Each (λ z. x.place < z.place)) cut up.0) in
        let ne : (x.place == y.place) ≡ false = apart x.place y.place (λ q. absurd (omega (arith, q, lt))) in
        sym (ap (λ a. a || has ws' y.place) ne) ∙ sym (ap (λ l. has l y.place) e) ∙ rest b says before after y cut traced own

    by : ((ws' : List ℕ) → IsSublist ws' (traced_places plan xs) → Between plan fired xs (switched plan fired x (length plan.triggers) on) ws')
        → (t : Bool) → is_traced plan x.item ≡ t → (b : Bool) → on ≡ b
        → IsSublist ws (cond t (x.place ∷ traced_places plan xs) (traced_places plan xs))
        → (Says plan fired (x ∷ xs) on ws true
        → IsSublist (cond (t && b) (x.place ∷ own_places plan fired xs (switched plan fired x (length plan.triggers) on))
        (own_places plan fired xs (switched plan fired x (length plan.triggers) on))) ws)
        × (Says plan fired (x ∷ xs) on ws false
        → IsSublist ws (cond (t && b) (x.place ∷ own_places plan fired xs (switched plan fired x (length plan.triggers) on))
        (own_places plan fired xs (switched plan fired x (length plan.triggers) on))))
    by later false traced b is s = (λ says. (later ws s).0 (rest true says), λ says. (later ws s).1 (rest false says))
    by later true traced true is s =
        ⊎_elim
        (λ a. (
          λ says. false_true (sym (sub-lacks ws (traced_places plan xs) x.place a (none-lower plan x.place xs up.0)) ∙ says [] xs x refl traced is),
          λ says. inl ((later ws a).1 (rest false says)),
        ))
        (λ (q : (r : List ℕ) × (ws ≡ x.place ∷ r) × IsSublist r (traced_places plan xs)). (
          λ says.
              subst (IsSublist (x.place ∷ own_places plan fired xs (switched plan fired x (length plan.triggers) on))) (sym q.1)
              (inr (own_places plan fired xs (switched plan fired x (length plan.triggers) on), refl, (later q.0 q.2).0 (same q.0 q.1 true says))),
          λ says. inr (q.0, q.1, (later q.0 q.2).1 (same q.0 q.1 false says)),
        )) s
    by later true traced false is s =
        ⊎_elim (λ a. (λ says. (later ws a).0 (rest true says), λ says. (later ws a).1 (rest false says)))
        (λ (q : (r : List ℕ) × (ws ≡ x.place ∷ r) × IsSublist r (traced_places plan xs)). (
          λ says.
              subst (IsSublist (own_places plan fired xs (switched plan fired x (length plan.triggers) on))) (sym q.1)
              (inl ((later q.0 q.2).0 (same q.0 q.1 true says))),
          λ says.
              false_true (sym (says [] xs x refl traced is) ∙ ap (λ l. has l x.place) q.1 ∙ ap (λ a. a || has q.0 x.place) (==-refl x.place)),
        )) s

-- ## the ring

module _ (plan : TracePlan) (history : List Item) (rings : Rings) (c : ℕ) (legal : RingsLegal plan history rings) (inside : c < plan.cpus) where
  -- no other CPU excuses an entry
  no-other : (b : Bool) → OnlyOwnFired plan history rings.fired c b → OtherFired plan history rings.fired c b → ⊥
  no-other b own o = false_true (sym o.other ∙ own o.trigger' o.place o.item o.within o.switches o.fired' o.stands)

  -- the entries at which the own switch is on
  abbrev own : List ℕ
  own = own_places plan rings.fired (items_on plan c history) plan.tracing

  ring : IsRing plan history rings c
  ring = legal.ring c inside

  in-between : Between plan rings.fired (items_on plan c history) plan.tracing ring.written
  in-between = between plan rings.fired (items_on plan c history) plan.tracing (increases plan c 0 history) ring.written ring.some_of

  all-of : OnlyOwnFired plan history rings.fired c false → IsSublist own ring.written
  all-of alone = in-between.0 (λ before after x cut traced on.
      ⊎_elim (λ e. e) (λ e. absurd (no-other false alone (ring.missed before after x cut traced on e))) (bool_cases (has ring.written x.place)))

  none-but : OnlyOwnFired plan history rings.fired c true → IsSublist ring.written own
  none-but alone = in-between.1 (λ before after x cut traced off.
      ⊎_elim (λ e. absurd (no-other true alone (ring.extra before after x cut traced off e))) (λ e. e) (bool_cases (has ring.written x.place)))

  pub none-lost : OnlyOwnFired plan history rings.fired c false
      → (written : List ℕ) × (slice_get rings.cpus c ≡ Some (ring_with plan written)) × IsSublist own written
  none-lost alone = (ring.written, ring.keeps, all-of alone)

  pub none-added : OnlyOwnFired plan history rings.fired c true
      → (written : List ℕ) × (slice_get rings.cpus c ≡ Some (ring_with plan written)) × IsSublist written own
  none-added alone = (ring.written, ring.keeps, none-but alone)

  pub alone : ((on : Bool) → OnlyOwnFired plan history rings.fired c on) → slice_get rings.cpus c ≡ Some (ring_with plan own)
  alone all = ring.keeps ∙ ap (λ ws. Some (ring_with plan ws)) (sub-same ring.written own (none-but (all true)) (all-of (all false)))
