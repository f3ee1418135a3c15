-- What the steps of a seat make of it.
use Rattle.std.proofs.Common.{◌≡◌, ◌≢◌, ℕ, zero, suc, ◌+◌, ◌<◌, ◌≤◌, Bool, true, false, List, [], ◌∷◌, ◌++◌, length, set, get_or, inr, ⊎_elim, cond, refl, sym, ap, ◌∙◌, subst, arith, length-append, length-set, get_or-set_same, get_or-set_other, Option, Some, None}
use Rattle.std.specs.Prelude.{◌==◌}
use Rattle.std.specs.Global.{Vec}
use Rattle.std.proofs.lemmas.Bool.Decides.{nat_tests}
use Rattle.atomic_table.specs.Seated.{TableId}
use Rattle.atomic_table.specs.Table.{Me}
use Rattle.ft_base.proofs.Small.{or-true_either}
use Rattle.ft_base.specs.declared.item.Stamped.{Stamped}
use Rattle.ring_rules.specs.Plan.{TracePlan}
use Rattle.ring_rules.specs.Hits.{fires, has, is_hit, quota, trigger}
use Rattle.ring_rules.specs.Fold.{Ring, write}
use Rattle.ring_rules.specs.Gathered.{RingBox, lists_of, written_box}
use Rattle.ring_rules.specs.RingInvariant.{ring_after}
use Rattle.ring_rules.specs.Legal.{fired_at}
use Rattle.ring_rules.proofs.Lists.{equal, has-snoc}
use Rattle.ring_rules.proofs.Totals.{same-or}
use Rattle.ring_table.specs.declared.view.Known.{Known}
use Rattle.ring_table.specs.Views.{View, cpu_view, known_of}
use Rattle.ring_table.specs.Seats.{Hits, IsCounted, SeatGood, SeatPlace, SeatSits, looked_with, spaces_of, with_known}
use Rattle.ring_table.specs.Tally.{drawn, fired_of, hits_of, looked, switched_to}

-- ## seats and their views

-- what a seat knows, of a plan that is its own
pub view-at : {S : Type 0} (me : Me S View) (plan : TracePlan) (known : Known) (c : ℕ) → me ≡ (cpu_view me.0.job c known, []) → me.0.job ≡ plan
    → me ≡ (cpu_view plan c known, [])
view-at me plan known c is same = is ∙ ap (λ p. (cpu_view p c known, [])) same

pub sits-as : {S : Type 0} (me : Me S View) (plan : TracePlan) (c : ℕ) (k : Known) (ring : RingBox) (fired : List (Vec ℕ)) (next room left : ℕ)
    → me ≡ (cpu_view plan c k, []) → SeatGood plan k ring fired next room left → SeatSits me (known_of me.0) c ring fired next room left
sits-as {S} me plan c k ring fired next room left is good =
    subst (λ (m : Me S View). SeatSits m (known_of m.0) c ring fired next room left) (sym is) record { view' = refl; good = good }

pub length-lists : (vs : List (Vec ℕ)) → length (lists_of vs) ≡ length vs
length-lists [] = refl
length-lists (v ∷ vs) = ap suc (length-lists vs)

-- ## a ticket

module _ (plan : TracePlan) (i n : ℕ) (k : Known) (ring : RingBox) (fired : List (Vec ℕ)) (next room left : ℕ)
    (g : SeatGood plan k ring fired next room left) (within' : i < length plan.triggers) (free : hits_of k i + left < room) where
  drawn-hits : (j : ℕ) → hits_of (drawn plan i n k) j + left ≤ room
  drawn-hits j =
      ⊎_elim
      (λ (e : j ≡ i). subst (λ m. hits_of (drawn plan i n k) m + left ≤ room) (sym e)
      (let h = get_or-set_same k.hits i (suc (hits_of k i)) 0 (let l = g.lengths.0 in omega (arith, l, within')) in omega (arith, h, free)))
      (λ (ne : j ≢ i). let h = get_or-set_other k.hits i j (suc (hits_of k i)) 0 ne in let f = g.within j in omega (arith, h, f))
      (same-or j i)

  more-hits : (j : ℕ) → hits_of k j ≤ hits_of (drawn plan i n k) j
  more-hits j =
      ⊎_elim
      (λ (e : j ≡ i). subst (λ m. hits_of k m ≤ hits_of (drawn plan i n k) m) (sym e)
      (let h = get_or-set_same k.hits i (suc (hits_of k i)) 0 (let l = g.lengths.0 in omega (arith, l, within')) in omega (arith, h)))
      (λ (ne : j ≢ i). let h = get_or-set_other k.hits i j (suc (hits_of k i)) 0 ne in omega (arith, h))
      (same-or j i)

  -- it doesn't fire
  pub good-drawn : fires (trigger plan i).limit n ≡ false → SeatGood plan (drawn plan i n k) ring fired next room left
  good-drawn miss =
      let same : (drawn plan i n k).fired ≡ k.fired = ap (λ b. cond b (set k.fired i (suc (fired_of k i))) k.fired) miss in
      record {
        lengths = (length-set k.hits i (suc (hits_of k i)) ∙ g.lengths.0, ap length same ∙ g.lengths.1);
        count = g.count;
        same = λ j lt. g.same j lt ∙ sym (ap (λ l. get_or l j 0) same);
        fewer = λ j. (let f = g.fewer j in let m = more-hits j in let s = ap (λ l. get_or l j 0) same in omega (arith, f, m, s));
        within = drawn-hits;
        few = g.few;
        spaces = g.spaces;
        below = g.below;
        written' = g.written';
        keeps = g.keeps;
      }

  -- it fires at p, and tracing is switched
  pub good-fired : (p : ℕ) (on : Bool) (fired' : List (Vec ℕ)) → fires (trigger plan i).limit n ≡ true → p < next
      → lists_of fired' ≡ set (lists_of fired) i (fired_at (lists_of fired) i ++ p ∷ []) → spaces_of fired' ≡ spaces_of fired
      → length fired' ≡ length fired
      → SeatGood plan (switched_to on (drawn plan i n k)) ring fired' next room left
  good-fired p on fired' hit low lists spaces count' =
      let same : (drawn plan i n k).fired ≡ set k.fired i (suc (fired_of k i)) = ap (λ b. cond b (set k.fired i (suc (fired_of k i))) k.fired) hit in
      let own : fired_of (drawn plan i n k) i ≡ suc (fired_of k i) =
      ap (λ l. get_or l i 0) same ∙ get_or-set_same k.fired i (suc (fired_of k i)) 0 (let l = g.lengths.1 in omega (arith, l, within')) in
      let other : (j : ℕ) → j ≢ i → fired_of (drawn plan i n k) j ≡ fired_of k j = λ j ne.
      ap (λ l. get_or l j 0) same ∙ get_or-set_other k.fired i j (suc (fired_of k i)) 0 ne in
      let own-list : fired_at (lists_of fired') i ≡ fired_at (lists_of fired) i ++ p ∷ [] =
      ap (λ l. fired_at l i) lists
      ∙ get_or-set_same (lists_of fired) i (fired_at (lists_of fired) i ++ p ∷ []) [] (let l = g.count in let m =
      length-lists fired in omega (arith, l, m, within')) in
      let other-list : (j : ℕ) → j ≢ i → fired_at (lists_of fired') j ≡ fired_at (lists_of fired) j = λ j ne.
      ap (λ l. fired_at l j) lists ∙ get_or-set_other (lists_of fired) i j (fired_at (lists_of fired) i ++ p ∷ []) [] ne in
      record {
        lengths = (length-set k.hits i (suc (hits_of k i)) ∙ g.lengths.0, ap length same ∙ length-set k.fired i (suc (fired_of k i)) ∙ g.lengths.1);
        count = count' ∙ g.count;
        same = λ j lt.
            ⊎_elim
            (λ (e : j ≡ i). subst (λ m. length (fired_at (lists_of fired') m) ≡ fired_of (drawn plan i n k) m) (sym e)
            (let a = ap length own-list in let b = length-append (fired_at (lists_of fired) i) (p ∷ []) in let s =
            g.same i within' in omega (arith, a, b, s, own)))
            (λ (ne : j ≢ i). ap length (other-list j ne) ∙ g.same j lt ∙ sym (other j ne))
            (same-or j i);
        fewer = λ j.
            ⊎_elim
            (λ (e : j ≡ i). subst (λ m. fired_of (drawn plan i n k) m ≤ hits_of (drawn plan i n k) m) (sym e)
            (let f = g.fewer i in
            let h = get_or-set_same k.hits i (suc (hits_of k i)) 0 (let l = g.lengths.0 in omega (arith, l, within')) in
            omega (arith, f, h, own)))
            (λ (ne : j ≢ i). let f = g.fewer j in let m = more-hits j in let o = other j ne in omega (arith, f, m, o))
            (same-or j i);
        within = drawn-hits;
        few = g.few;
        spaces = λ j lt. (let s = ap (λ l. get_or l j 0) spaces in let f = g.spaces j lt in omega (arith, s, f));
        below = λ j q h.
            ⊎_elim
            (λ (e : j ≡ i).
            ⊎_elim (λ old. g.below i q old) (λ new. subst (λ m. m < next) (equal p q new) low)
            (or-true_either (has (fired_at (lists_of fired) i) q) (p == q)
            (sym (has-snoc (fired_at (lists_of fired) i) p q) ∙ sym (ap (λ l. has l q) own-list)
            ∙ subst (λ m. has (fired_at (lists_of fired') m) q ≡ true) e h)))
            (λ (ne : j ≢ i). g.below j q (sym (ap (λ l. has l q) (other-list j ne)) ∙ h))
            (same-or j i);
        written' = g.written';
        keeps = g.keeps;
      }

-- ## tracing is looked at

pub good-looked : (plan : TracePlan) (k : Known) (ring : RingBox) (fired : List (Vec ℕ)) (next room left : ℕ)
    → SeatGood plan k ring fired next room left
    → (on : Bool) (ring' : RingBox) → ring'.most ≡ ring.most → ring'.ring.written + left ≤ room
    → SeatGood plan (looked on k) ring' fired next room left
good-looked plan k ring fired next room left g on ring' most small = record {
  lengths = g.lengths;
  count = g.count;
  same = g.same;
  fewer = g.fewer;
  within = g.within;
  few = g.few;
  spaces = g.spaces;
  below = g.below;
  written' = small;
  keeps = most ∙ g.keeps;
}

-- ## room

-- of a trigger that fires once more there were fewer fired hits than can fire
quota-room : (limit : Option ℕ) (n hits fired room : ℕ) → fires limit n ≡ true → fired ≤ hits → hits ≤ n → hits < room → fired < quota limit room
quota-room None n hits fired room e few own free = omega (arith, few, free)
quota-room (Some most) n hits fired room e few own free = let lt : n < most = grind (arith, nat_tests) in omega (arith, few, own, free, lt)

-- so there is room to note it
pub note-room : (plan : TracePlan) (i n : ℕ) (k : Known) (ring : RingBox) (fired : List (Vec ℕ)) (next room left : ℕ)
    → SeatGood plan k ring fired next room left
    → i < length plan.triggers → hits_of k i + left < room → fires (trigger plan i).limit n ≡ true → hits_of k i ≤ n
    → length (fired_at (lists_of fired) i) < get_or (spaces_of fired) i 0
note-room plan i n k ring fired next room left g within' free fire own =
    let lt = quota-room (trigger plan i).limit n (hits_of k i) (fired_of k i) room fire (g.fewer i) own (omega (arith, free)) in
    let s = g.same i within' in
    let space = g.spaces i within' in
    omega (arith, lt, s, space)

-- the fired places are counted, and not many
pub good-counted : (s : SeatPlace) (plan : TracePlan) (ring : RingBox) (fired : List (Vec ℕ)) (next room left : ℕ)
    → SeatGood plan s.known ring fired next room left
    → s.fired ≡ lists_of fired → IsCounted plan s
good-counted s plan ring fired next room left g are = record {
  places = λ i lt. ap (λ l. length (fired_at l i)) are ∙ g.same i lt;
  few = λ i. (let f = g.fewer i in let w = g.within i in let m = g.few in omega (arith, f, w, m));
}

-- ## what contracts see

pub hit-fired : (plan : TracePlan) (i n : ℕ) (x : Stamped) (s t : SeatPlace) → s.plan ≡ plan → is_hit (trigger plan i) x.item ≡ true
    → fires (trigger plan i).limit n ≡ true
    → t ≡ with_known s (switched_to (trigger plan i).on (drawn plan i n s.known)) (set s.fired i (fired_at s.fired i ++ x.place ∷ [])) → Hits i x s t
hit-fired plan i n x s t same hit fire is =
    let hit' : is_hit (trigger s.plan i) x.item ≡ true = ap (λ p. is_hit (trigger p i) x.item) same ∙ hit in
    let fire' : fires (trigger s.plan i).limit n ≡ true = ap (λ p. fires (trigger p i).limit n) same ∙ fire in
    let so : t ≡ with_known s (switched_to (trigger s.plan i).on (drawn s.plan i n s.known)) (set s.fired i (fired_at s.fired i ++ x.place ∷ [])) =
    is ∙ ap (λ p. with_known s (switched_to (trigger p i).on (drawn p i n s.known)) (set s.fired i (fired_at s.fired i ++ x.place ∷ [])))
    (sym same) in
    inr (
      hit',
      (
        n,
        so ∙ sym (ap (λ b. cond b (with_known s (switched_to (trigger s.plan i).on (drawn s.plan i n s.known))
            (set s.fired i (fired_at s.fired i ++ x.place ∷ [])))
            (with_known s (drawn s.plan i n s.known) s.fired)) fire'),
      ),
    )

pub hit-drawn : (plan : TracePlan) (i n : ℕ) (x : Stamped) (s t : SeatPlace) → s.plan ≡ plan → is_hit (trigger plan i) x.item ≡ true
    → fires (trigger plan i).limit n ≡ false
    → t ≡ with_known s (drawn plan i n s.known) s.fired → Hits i x s t
hit-drawn plan i n x s t same hit fire is =
    let hit' : is_hit (trigger s.plan i) x.item ≡ true = ap (λ p. is_hit (trigger p i) x.item) same ∙ hit in
    let fire' : fires (trigger s.plan i).limit n ≡ false = ap (λ p. fires (trigger p i).limit n) same ∙ fire in
    let so : t ≡ with_known s (drawn s.plan i n s.known) s.fired = is ∙ ap (λ p. with_known s (drawn p i n s.known) s.fired) (sym same) in
    inr (
      hit',
      (
        n,
        so ∙ sym (ap (λ b. cond b (with_known s (switched_to (trigger s.plan i).on (drawn s.plan i n s.known))
            (set s.fired i (fired_at s.fired i ++ x.place ∷ [])))
            (with_known s (drawn s.plan i n s.known) s.fired)) fire'),
      ),
    )

-- ## from a seat's own plan to the table's

pub drawn-me : {S : Type 0} (me me1 : Me S View) (key plan : TracePlan) (c i n : ℕ) (k : Known) → me ≡ (cpu_view me.0.job c k, []) → me.0.job ≡ plan
    → key ≡ plan
    → ((c' : ℕ) (k' : Known) → me ≡ (cpu_view key c' k', []) → me1 ≡ (cpu_view key c' (drawn key i n k'), []))
    → me1 ≡ (cpu_view plan c (drawn plan i n k), [])
drawn-me me me1 key plan c i n k is own same step =
    step c k (view-at me key k c is (own ∙ sym same)) ∙ ap (λ p. (cpu_view p c (drawn p i n k), [])) same

pub switched-me : {S : Type 0} (me1 me2 : Me S View) (key plan : TracePlan) (c : ℕ) (k : Known) (on : Bool) → me1 ≡ (cpu_view plan c k, [])
    → key ≡ plan
    → ((c' : ℕ) (k' : Known) → me1 ≡ (cpu_view key c' k', []) → me2 ≡ (cpu_view key c' (switched_to on k'), []))
    → me2 ≡ (cpu_view plan c (switched_to on k), [])
switched-me me1 me2 key plan c k on is same step =
    step c k (is ∙ ap (λ p. (cpu_view p c k, [])) (sym same)) ∙ ap (λ p. (cpu_view p c (switched_to on k), [])) same

pub looked-me : {S : Type 0} (me me1 : Me S View) (key plan : TracePlan) (c : ℕ) (k : Known) (on : Bool) → me ≡ (cpu_view me.0.job c k, [])
    → me.0.job ≡ plan → key ≡ plan
    → ((c' : ℕ) (k' : Known) → me ≡ (cpu_view key c' k', []) → me1 ≡ (cpu_view key c' (looked on k'), [])) → me1 ≡ (cpu_view plan c (looked on k), [])
looked-me me me1 key plan c k on is own same step =
    step c k (view-at me key k c is (own ∙ sym same)) ∙ ap (λ p. (cpu_view p c (looked on k), [])) same

-- a fired hit of its trigger is counted
pub drawn-fired : (plan : TracePlan) (i n : ℕ) (k : Known) → i < length k.fired → fires (trigger plan i).limit n ≡ true
    → 0 < fired_of (drawn plan i n k) i
drawn-fired plan i n k within fire =
    let e : fired_of (drawn plan i n k) i ≡ suc (fired_of k i) =
    ap (λ b. get_or (cond b (set k.fired i (suc (fired_of k i))) k.fired) i 0) fire ∙ get_or-set_same k.fired i (suc (fired_of k i)) 0 within in
    omega (arith, e)

-- as many lists
pub lists-count : (vs ws : List (Vec ℕ)) (i : ℕ) (l : List ℕ) → lists_of ws ≡ set (lists_of vs) i l → length ws ≡ length vs
lists-count vs ws i l is = sym (length-lists ws) ∙ ap length is ∙ length-set (lists_of vs) i l ∙ length-lists vs

-- what contracts see of a seat that knows something else
pub value-as : {S : Type 0} (me : Me S View) (plan : TracePlan) (c : ℕ) (k : Known) → me ≡ (cpu_view plan c k, [])
    → (tid : TableId) (id : ℕ) (s : SeatPlace)
    → tid ≡ s.table_id → id ≡ s.id → s.plan ≡ plan → (f f' : List (List ℕ)) → f ≡ f'
    → record {
      table_id = tid;
      id = id;
      plan = me.0.job;
      number = s.number;
      known = known_of me.0;
      ring = s.ring;
      fired = f;
      next = s.next;
      room = s.room;
      left = s.left;
    }
    ≡ with_known s k f'
value-as me plan c k is tid id s tids ids own f f' same =
    λ j. record {
      table_id = tids j;
      id = ids j;
      plan = (ap (λ m. m.0.job) is ∙ sym own) j;
      number = s.number;
      known = ap (λ m. known_of m.0) is j;
      ring = s.ring;
      fired = same j;
      next = s.next;
      room = s.room;
      left = s.left;
    }

pub looked-as : {S : Type 0} (me : Me S View) (plan : TracePlan) (c : ℕ) (on : Bool) (p : ℕ) (s : SeatPlace)
    → me ≡ (cpu_view plan c (looked on s.known), [])
    → (tid : TableId) (id : ℕ) → tid ≡ s.table_id → id ≡ s.id → s.plan ≡ plan → (ring : Ring) → ring ≡ ring_after plan on p s.ring
    → record {
      table_id = tid;
      id = id;
      plan = me.0.job;
      number = s.number;
      known = known_of me.0;
      ring = ring;
      fired = s.fired;
      next = s.next;
      room = s.room;
      left = s.left;
    }
    ≡ looked_with s p on
looked-as me plan c on p s is tid id tids ids own ring rings =
    λ j. record {
      table_id = tids j;
      id = ids j;
      plan = (ap (λ m. m.0.job) is ∙ sym own) j;
      number = s.number;
      known = ap (λ m. known_of m.0) is j;
      ring = (rings ∙ ap (λ q. ring_after q on p s.ring) (sym own)) j;
      fired = s.fired;
      next = s.next;
      room = s.room;
      left = s.left;
    }

-- ## lists of vectors

pub at-lists : (vs : List (Vec ℕ)) (i : ℕ) (d : Vec ℕ) → i < length vs → fired_at (lists_of vs) i ≡ (get_or vs i d).items
at-lists [] i d lt = absurd (omega (arith, lt))
at-lists (v ∷ vs) zero d lt = refl
at-lists (v ∷ vs) (suc i) d lt = at-lists vs i d (omega (arith, lt))

-- ## the same of a seat that is seen so

pub hits-at : (i : ℕ) (x : Stamped) (s0 s t : SeatPlace) → s0 ≡ s → Hits i x s0 t → Hits i x s t
hits-at i x s0 s t is h = subst (λ u. Hits i x u t) is h

pub looked-at : (p : ℕ) (on : Bool) (s0 s t : SeatPlace) → s0 ≡ s → t ≡ looked_with s0 p on → t ≡ looked_with s p on
looked-at p on s0 s t is h = h ∙ ap (λ u. looked_with u p on) is

pub written-as : (p : ℕ) (ring ring' : RingBox) (plan : TracePlan) → ring' ≡ written_box p ring → ring.most ≡ plan.ring
    → ring'.ring ≡ ring_after plan true p ring.ring
written-as p ring ring' plan is keeps = ap (λ (b : RingBox). b.ring) is ∙ ap (λ n. write n p ring.ring) keeps
