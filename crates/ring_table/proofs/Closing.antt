-- The seats of a closed table make legal rings.
use Rattle.std.proofs.Common.{◌≡◌, ◌≢◌, ℕ, zero, suc, ◌+◌, ◌*◌, ◌<◌, ◌≤◌, Bool, true, false, List, [], ◌∷◌, ◌++◌, length, map, get_or, ⊎_elim, refl, sym, ap, ◌∙◌, subst, arith, length-append, Some}
use Rattle.std.specs.Prelude.{◌||◌, ◌==◌, slice_get, slice_index_or, option_map}
use Rattle.std.proofs.lemmas.List.{length-map}
use Rattle.std.proofs.lemmas.List.Concat.{flat_map-cons}
use Rattle.std.proofs.lemmas.List.Folds.{list_any-append}
use Rattle.std.proofs.lemmas.Option.{slice_get-map}
use mathlib.Core.Option.{some}
use lib.ListN.{get_elem?}
use Rattle.atomic_table.specs.Table.{State}
use Rattle.ft_base.proofs.Small.{false_true, or-true, or-true_either, ==-refl}
use Rattle.ft_base.specs.declared.item.Item.{Item}
use Rattle.ft_base.specs.declared.limits.TheConstants.{CPUS, ITEMS}
use Rattle.ring_rules.specs.Plan.{IsPlan, TracePlan}
use Rattle.ring_rules.specs.Hits.{has, quota, trigger}
use Rattle.ring_rules.specs.Fold.{Ring, Rings, no_ring}
use Rattle.ring_rules.specs.Gathered.{AreFew, all_fired, places_in}
use Rattle.ring_rules.specs.Legal.{EachOnce, RingsLegal, fired_at, items_on}
use Rattle.ring_rules.specs.RingInvariant.{FiredElsewhere, Gathers, CpuInvariant, IsOf, total}
use Rattle.ring_rules.proofs.Assembled.{assembled, fired-apart, same-value}
use Rattle.ring_rules.proofs.Lists.{bool_cases, none-some}
use Rattle.ring_rules.proofs.Numbers.{no-quota}
use Rattle.ring_rules.proofs.Parts.{fired-count, fired-is}
use Rattle.ring_rules.proofs.Totals.{total-same}
use Rattle.ring_table.specs.declared.view.Known.{Known}
use Rattle.ring_table.specs.Views.{Part, View, view}
use Rattle.ring_table.specs.Rule.{RingRule}
use Rattle.ring_table.specs.Seats.{AreCounted, HaveItems, SeatPlace, parts_of}
use Rattle.ring_table.specs.Tally.{fired_of, hits_of, saw}
use Rattle.dealt_seats.specs.Views.{cpu, part}
use Rattle.dealt_seats.proofs.Parts.{seat-at}

same_Some : {A : Type 0} (x y : A) → Some x ≡ Some y → x ≡ y
same_Some x y e = same-value (Some x) x y refl e

-- ## lists of seats

-- the value of a function at it
pub map-at : {A B : Type 0} (f : A → B) (xs : List A) (c : ℕ) (x : A) (d : B) → slice_get xs c ≡ Some x → get_or (map f xs) c d ≡ f x
map-at f [] c x d e = absurd (none-some x e)
map-at f (y ∷ ys) zero x d e = ap f (same_Some y x e)
map-at f (y ∷ ys) (suc c) x d e = map-at f ys c x d e

-- ## the places of all CPUs

has-append : (u v : List ℕ) (p : ℕ) → has (u ++ v) p ≡ (has u p || has v p)
has-append u v p = list_any-append (λ q. q == p) u v

once-append : (u v : List ℕ) → EachOnce u → EachOnce v → ((p : ℕ) → has u p ≡ true → has v p ≡ true → ⊥) → EachOnce (u ++ v)
once-append [] v ou ov disjoint = ov
once-append (p ∷ ps) v ou ov disjoint = (
  has-append ps v p ∙ (λ j. ou.0 j || not-there j),
  once-append ps v ou.1 ov (λ q h. disjoint q (ap (λ b. (p == q) || b) h ∙ or-true (p == q))),
)
  where
    not-there : has v p ≡ false
    not-there = ⊎_elim (λ e. absurd (disjoint p (ap (λ b. b || has ps p) (==-refl p)) e)) (λ e. e) (bool_cases (has v p))

total-shift : (n : ℕ) (f : ℕ → ℕ) → total (suc n) f ≡ f 0 + total n (λ c. f (suc c))
total-shift zero f = omega arith
total-shift (suc n) f = let e = total-shift n f in omega (arith, e)

-- those of one CPU
abbrev share_at : List (List (List ℕ)) → ℕ → ℕ → List ℕ
share_at parts i c = fired_at (slice_index_or parts c []) i

-- the parts are those of CPUs that have no place in common
gathers : (i : ℕ) (l : List (List (List ℕ))) → ((c : ℕ) → c < length l → EachOnce (share_at l i c))
    → ((c d p : ℕ) → c < length l → d < length l → has (share_at l i c) p ≡ true → has (share_at l i d) p ≡ true → d ≢ c → ⊥)
    → Gathers (length l) (share_at l i) (places_in i l)
gathers i [] once disjoint = record {
  times = refl;
  from = λ p h. false_true h;
  each = λ c p lt h. absurd (omega (arith, lt));
  once = tt;
}
gathers i (x ∷ xs) once disjoint =
    let rest = gathers i xs (λ c lt. once (suc c) (omega (arith, lt)))
    (λ c d p lc ld hc hd ne. disjoint (suc c) (suc d) p (omega (arith, lc)) (omega (arith, ld)) hc hd (λ e. ne (omega (arith, e)))) in
    subst (Gathers (suc (length xs)) (share_at (x ∷ xs) i)) (sym (flat_map-cons (λ p. fired_at p i) x xs))
    record {
      times = (let a = length-append (fired_at x i) (places_in i xs) in
          let t = total-shift (length xs) (λ c. length (share_at (x ∷ xs) i c)) in
          let r = rest.times in
          omega (arith, a, t, r));
      from = λ p h.
          ⊎_elim (λ here. (0, omega arith, here)) (λ there. let f = rest.from p there in let lt = f.1 in (suc f.0, omega (arith, lt), f.2))
          (or-true_either (has (fired_at x i) p) (has (places_in i xs) p) (sym (has-append (fired_at x i) (places_in i xs) p) ∙ h));
      each = λ c p lt h. has-append (fired_at x i) (places_in i xs) p ∙ in-one rest c p lt h;
      once = once-append (fired_at x i) (places_in i xs) (once 0 (omega arith)) rest.once
          (λ p here there. let f = rest.from p there in let lt =
          f.1 in disjoint 0 (suc f.0) p (omega arith) (omega (arith, lt)) here f.2 (λ e. absurd (omega (arith, e))));
    }
  where
    in-one : Gathers (length xs) (share_at xs i) (places_in i xs) → (c p : ℕ) → c < suc (length xs) → has (share_at (x ∷ xs) i c) p ≡ true
        → (has (fired_at x i) p || has (places_in i xs) p) ≡ true
    in-one rest zero p lt h = ap (λ b. b || has (places_in i xs) p) h
    in-one rest (suc c) p lt h = ap (λ b. has (fired_at x i) p || b) (rest.each c p (omega (arith, lt)) h) ∙ or-true (has (fired_at x i) p)

-- ## the close

-- what seats have made
abbrev pub made_by : ℕ → List SeatPlace → Rings
made_by n seats = record { cpus = map (λ s. s.ring) seats; fired = all_fired n (map (λ s. s.fired) seats) }

-- the seats but the last have joined the last one
shift-part : (x0 r : Part) (ps : List Part) (q : Part) (i : ℕ) → get_elem? (x0 ∷ ps) i ≡ some q → (j : ℕ) × (get_elem? (x0 ∷ r ∷ ps) j ≡ some q)
shift-part x0 r ps q zero e = (zero, e)
shift-part x0 r ps q (suc i) e = (suc (suc i), e)

pub last-at : (rest : List SeatPlace) (last : SeatPlace) (c : ℕ) (s : SeatPlace) → slice_get (rest ++ last ∷ []) c ≡ Some s
    → (i : ℕ) × (get_elem? (part (cpu last.number) last.known ∷ parts_of rest) i ≡ some (part (cpu s.number) s.known))
last-at [] last zero s e = (zero, ap (λ (u : SeatPlace). some (part (cpu u.number) u.known)) (same_Some last s e))
last-at [] last (suc c) s e = absurd (none-some s e)
last-at (r ∷ rs) last zero s e = (suc zero, ap (λ (u : SeatPlace). some (part (cpu u.number) u.known)) (same_Some r s e))
last-at (r ∷ rs) last (suc c) s e =
    let f = last-at rs last c s e in
    shift-part (part (cpu last.number) last.known) (part (cpu r.number) r.known) (parts_of rs) (part (cpu s.number) s.known) f.0 f.1

module _ {S : Type 0} (plan : TracePlan) (t : State S View) (r : RingRule plan t) (id : ℕ) (seats : List SeatPlace) (count : length seats ≡ plan.cpus)
    (numbers : (c : ℕ) (s : SeatPlace) → slice_get seats c ≡ Some s → s.number ≡ c) (counted : AreCounted plan seats)
    (v : View) (at : get_elem? t.views id ≡ some v)
    (stands : (c : ℕ) (s : SeatPlace) → slice_get seats c ≡ Some s → (i : ℕ) × (get_elem? v.parts i ≡ some (part (cpu s.number) s.known)))
    (h : List Item) (of : IsOf plan h) (have : HaveItems plan h seats) where
  abbrev knows : ℕ → Known
  knows c = r.knows (cpu c)

  abbrev fired : ℕ → List (List ℕ)
  fired c = slice_index_or (map (λ (s : SeatPlace). s.fired) seats) c []

  abbrev ring : ℕ → Ring
  ring c = slice_index_or (map (λ (s : SeatPlace). s.ring) seats) c no_ring

  abbrev next : ℕ → ℕ
  next c = slice_index_or (map (λ (s : SeatPlace). s.next) seats) c 0

  inside : (c : ℕ) → c < plan.cpus → (s : SeatPlace) × (slice_get seats c ≡ Some s)
  inside c lt = seat-at seats c (omega (arith, lt, count))

  fired-of : (c : ℕ) (s : SeatPlace) → slice_get seats c ≡ Some s → fired c ≡ s.fired
  fired-of c s e = map-at (λ (u : SeatPlace). u.fired) seats c s [] e

  ring-of : (c : ℕ) (s : SeatPlace) → slice_get seats c ≡ Some s → ring c ≡ s.ring
  ring-of c s e = map-at (λ (u : SeatPlace). u.ring) seats c s no_ring e

  next-is : (c : ℕ) (s : SeatPlace) → slice_get seats c ≡ Some s → next c ≡ s.next
  next-is c s e = map-at (λ (u : SeatPlace). u.next) seats c s 0 e

  known-is : (c : ℕ) (s : SeatPlace) → slice_get seats c ≡ Some s → s.known ≡ knows c
  known-is c s e =
      let p = stands c s e in
      (r.covers.fits id v at p.0 (part (cpu s.number) s.known) p.1).has ∙ ap knows (numbers c s e)

  kept : (c : ℕ) → c < plan.cpus → CpuInvariant plan (items_on plan c h) (next c) (knows c).own (hits_of (knows c)) (fired c) (ring c)
      (λ b. saw (knows c) b ≡ true)
  kept c lt =
      let s = inside c lt in
      subst (λ (z : ℕ × Known × List (List ℕ) × Ring). CpuInvariant plan (items_on plan c h) z.0 z.1.own (hits_of z.1) z.2 z.3 (λ b. saw z.1 b ≡ true))
      (λ j. (sym (next-is c s.0 s.1) j, known-is c s.0 s.1 j, sym (fired-of c s.0 s.1) j, sym (ring-of c s.0 s.1) j))
      (have c s.0 s.1).made

  fired-counted : (c i : ℕ) → c < plan.cpus → i < length plan.triggers → length (fired_at (fired c) i) ≡ fired_of (knows c) i
  fired-counted c i lt small =
      let s = inside c lt in
      ap (λ l. length (fired_at l i)) (fired-of c s.0 s.1) ∙ (counted c s.0 s.1).places i small ∙ ap (λ k. fired_of k i) (known-is c s.0 s.1)

  elsewhere : (c : ℕ) → c < plan.cpus → (b : Bool) → saw (knows c) b ≡ true → FiredElsewhere plan fired c b
  elsewhere c lt b e =
      let o = r.tally.saw' c b e in
      record {
        cpu = o.cpu;
        apart = o.apart;
        inside = o.inside;
        trigger' = o.trigger';
        within = o.within;
        switches = o.switches;
        some = (let n = fired-counted o.cpu o.trigger' o.inside o.within in let f = o.fired in omega (arith, n, f));
      }

  quotas : (i : ℕ) → i < length plan.triggers
      → total plan.cpus (λ c. length (fired_at (fired c) i)) ≡ quota (trigger plan i).limit (total plan.cpus (λ c. hits_of (knows c) i))
  quotas i small =
      total-same plan.cpus (λ c. length (fired_at (fired c) i)) (λ c. fired_of (knows c) i) (λ c lt. fired-counted c i lt small)
      ∙ r.tally.fired i small ∙ ap (quota (trigger plan i).limit) (r.tally.tickets i small)

  -- as many parts as CPUs
  part-count : length (map (λ (s : SeatPlace). s.fired) seats) ≡ plan.cpus
  part-count = length-map seats (λ (s : SeatPlace). s.fired) ∙ count

  all : (i : ℕ) → i < length plan.triggers
      → Gathers plan.cpus (λ c. fired_at (fired c) i) (fired_at (all_fired (length plan.triggers) (map (λ (s : SeatPlace). s.fired) seats)) i)
  all i small =
      subst (Gathers plan.cpus (λ c. fired_at (fired c) i)) (sym (fired-is (length plan.triggers) i (map (λ (s : SeatPlace). s.fired) seats) small))
      (subst (λ n. Gathers n (λ c. fired_at (fired c) i) (places_in i (map (λ (s : SeatPlace). s.fired) seats))) part-count
      (gathers i (map (λ (s : SeatPlace). s.fired) seats)
      (λ c lt. (kept c (omega (arith, lt, part-count))).once i small)
      (λ c d p lc ld hc hd ne.
      fired-apart plan r.limits h of next (λ c. (knows c).own) (λ c. hits_of (knows c)) fired ring (λ c b. saw (knows c) b ≡ true) kept c d i i p
      (omega (arith, lc, part-count)) (omega (arith, ld, part-count)) small small hc hd ne)))

  pub closed : RingsLegal plan h (made_by (length plan.triggers) seats)
  closed =
      assembled plan r.limits h of next (λ c. (knows c).own) (λ c. hits_of (knows c)) fired ring (λ c b. saw (knows c) b ≡ true) kept elsewhere quotas
      (made_by (length plan.triggers) seats)
      (length-map seats (λ (s : SeatPlace). s.ring) ∙ count)
      (λ c lt. let s = inside c lt in
      slice_get-map (λ (u : SeatPlace). u.ring) seats c ∙ ap (option_map (λ (u : SeatPlace). u.ring)) s.1
      ∙ ap (λ q. Some q) (sym (ring-of c s.0 s.1)))
      (fired-count (length plan.triggers) (map (λ (s : SeatPlace). s.fired) seats)) all

-- the same at a plan, rings and seats that are known
pub closed-as : {S : Type 0} (plan key : TracePlan) → key ≡ plan → (t : State S View) → RingRule key t
    → (id : ℕ) (seats rest : List SeatPlace) (last : SeatPlace)
    → seats ≡ rest ++ last ∷ [] → length seats ≡ plan.cpus
    → ((c : ℕ) (s : SeatPlace) → slice_get seats c ≡ Some s → s.number ≡ c) → AreCounted key (rest ++ last ∷ []) → (v : View)
    → get_elem? t.views id ≡ some v
    → (q : TracePlan) (here : ℕ) → v ≡ view q here (part (cpu last.number) last.known ∷ parts_of rest) → (n : ℕ) → n ≡ length plan.triggers
    → (made : Rings)
    → made ≡ made_by n (rest ++ last ∷ [])
    → (h : List Item) → IsOf plan h → HaveItems plan h seats → RingsLegal plan h made
closed-as plan key same t r id seats rest last cut count numbers counted v at q here is n many made makes h of have =
    let cpus : length seats ≡ key.cpus = count ∙ ap (λ (p : TracePlan). p.cpus) (sym same) in
    let stands : (c : ℕ) (s : SeatPlace) → slice_get seats c ≡ Some s → (i : ℕ) × (get_elem? v.parts i ≡ some (part (cpu s.number) s.known)) =
    λ c s e.
    let f = last-at rest last c s (ap (λ (l : List SeatPlace). slice_get l c) (sym cut) ∙ e) in
    (f.0, ap (λ (w : View). get_elem? w.parts f.0) is ∙ f.1) in
    let legal = closed key t r id seats cpus numbers (subst (AreCounted key) (sym cut) counted) v at stands h (subst (λ p. IsOf p h) (sym same) of)
    (subst (λ p. HaveItems p h seats) (sym same) have) in
    let trig : length key.triggers ≡ n = ap (λ (p : TracePlan). length p.triggers) same ∙ sym many in
    let all : made_by (length key.triggers) seats ≡ made = (λ j. made_by (trig j) (cut j)) ∙ sym makes in
    subst (λ (z : TracePlan × Rings). RingsLegal z.0 h z.1) (λ j. (same j, all j)) legal

-- where there is no CPU
none-total : (n : ℕ) (f : ℕ → ℕ) → n ≡ 0 → total n f ≡ 0
none-total zero f e = refl
none-total (suc n) f e = absurd (omega (arith, e))

pub closed-none : (plan : TracePlan) → IsPlan plan → plan.cpus ≡ 0 → (n : ℕ) → n ≡ length plan.triggers → (made : Rings) → made ≡ made_by n []
    → (h : List Item) → IsOf plan h → RingsLegal plan h made
closed-none plan limits none n many made makes h of =
    subst (RingsLegal plan h) (ap (λ m. made_by m []) (sym many) ∙ sym makes)
    (assembled plan limits h of (λ c. 0) (λ c. false) (λ c i. 0) (λ c. []) (λ c. no_ring) (λ c b. Unit {0}) (λ c lt. absurd (omega (arith, lt, none)))
    (λ c lt b s. absurd (omega (arith, lt, none)))
    (λ i small. none-total plan.cpus (λ c. 0) none
    ∙ sym (ap (quota (trigger plan i).limit) (none-total plan.cpus (λ c. 0) none) ∙ no-quota (trigger plan i).limit))
    (made_by (length plan.triggers) []) (sym none) (λ c lt. absurd (omega (arith, lt, none))) (fired-count (length plan.triggers) [])
    (λ i small. subst (Gathers plan.cpus (λ c. fired_at [] i)) (sym (fired-is (length plan.triggers) i [] small))
    record {
      times = sym (none-total plan.cpus (λ c. 0) none);
      from = λ p e. false_true e;
      each = λ c p lt e. absurd (omega (arith, lt, none));
      once = tt;
    }))

-- ## how many places there are

few-places : (i : ℕ) (plan : TracePlan) (seats : List SeatPlace) → i < length plan.triggers → AreCounted plan seats
    → length (places_in i (map (λ s. s.fired) seats)) ≤ length seats * ITEMS
few-places i plan [] lt counted = omega arith
few-places i plan (s ∷ ss) lt counted =
    let rest = few-places i plan ss lt (λ c u e. counted (suc c) u e) in
    let own = counted 0 s refl in
    let same = own.places i lt in
    let few = own.few i in
    let both = ap length (flat_map-cons (λ p. fired_at p i) s.fired (map (λ (u : SeatPlace). u.fired) ss)) in
    let two = length-append (fired_at s.fired i) (places_in i (map (λ (u : SeatPlace). u.fired) ss)) in
    let times : suc (length ss) * ITEMS ≡ length ss * ITEMS + ITEMS = omega arith in
    omega (arith, rest, same, few, both, two, times)

-- a number can tell how many
pub few-all : (plan : TracePlan) (seats : List SeatPlace) (parts : List (List (List ℕ))) (n : ℕ) → n ≡ length plan.triggers
    → parts ≡ map (λ s. s.fired) seats
    → AreCounted plan seats → length seats ≤ CPUS → AreFew n parts
few-all plan seats parts n many are counted small i lt =
    let few = few-places i plan seats (omega (arith, lt, many)) counted in
    let same = ap (λ l. length (places_in i l)) are in
    omega (arith, few, same, small)

pub none-few : (n : ℕ) (parts : List (List (List ℕ))) → parts ≡ [] → AreFew n parts
none-few n parts none i lt = let e = ap (λ l. length (places_in i l)) none in let z : length (places_in i []) ≡ 0 = refl in omega (arith, e, z)
