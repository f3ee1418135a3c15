-- The order that a merge of the lanes is.
use Rattle.std.proofs.Common.{cond, ◌≡◌, ◌≢◌, ◌⊎◌, inl, inr, ℕ, zero, suc, ◌+◌, ◌-◌, ◌<◌, ◌≤◌, Bool, true, false, ◌==◌, List, [], ◌∷◌, ◌++◌, length, map, take, refl, sym, ap, ◌∙◌, subst, arith}
use Rattle.std.specs.Prelude.{eqb, ◌||◌}
use Rattle.std.specs.List.{AllByRecursion as Each, IsDistinct, list_any, range_with_len}
use Rattle.std.proofs.lemmas.Bool.Decides.{nat_tests}
use Rattle.std.proofs.lemmas.Bool.{cases_eq, eqb-true, eq-eqb, ne_eqb}
use Rattle.std.proofs.lemmas.Cmp.{nat_eq_equiv}
use Rattle.std.proofs.lemmas.Map.Keys.{IsDistinct-push}
use Rattle.std.proofs.lemmas.Map.Steps.{length-le_from_distinct_below}
use Rattle.std.proofs.lemmas.Map.Made.{length-le_from_is_member}
use Rattle.std.proofs.lemmas.List.{append-nil, map-append, take_more, take_all}
use Rattle.std.proofs.lemmas.List.FromFn.{length-range_with_len}
use Rattle.ft_base.proofs.Small.{==-refl}
use Rattle.desk_lock.specs.Journals.{IsMerge, items_of}
use Rattle.desk_lock.proofs.Keeping.{same_or_not}
use Rattle.word_machine_laws.specs.Orders.{AreLed, IsLaneOrder, IsLed, in_lane, lane_of}
use Rattle.live_lanes.specs.LaneItems.{AreCounts, as_items, count_in, rank}

-- ## counting

count_step : (l x : ℕ) (xs ys : List ℕ) (b : Bool) → count_in l (xs ++ ys) ≡ count_in l xs + count_in l ys
    → cond b (suc (count_in l (xs ++ ys))) (count_in l (xs ++ ys)) ≡ cond b (suc (count_in l xs)) (count_in l xs) + count_in l ys
count_step l x xs ys true e = omega (arith, e)
count_step l x xs ys false e = e

pub count_append : (l : ℕ) (xs ys : List ℕ) → count_in l (xs ++ ys) ≡ count_in l xs + count_in l ys
count_append l [] ys = let e : count_in l ys ≡ 0 + count_in l ys = omega arith in e
count_append l (x ∷ xs) ys = count_step l x xs ys (x == l) (count_append l xs ys)

-- one more place
pub count_more : (l : ℕ) (lanes : List ℕ) (k : ℕ) → k < length lanes → count_in l (take (k + 1) lanes) ≡ count_in l (take k lanes) + cond (lane_of lanes k == l) 1 0
count_more l lanes k lt = ap (count_in l) (take_more lanes k 0 lt) ∙ count_append l (take k lanes) (lane_of lanes k ∷ [])

-- places below another
count_grows : (l : ℕ) (lanes : List ℕ) (j n : ℕ) → j + n ≤ length lanes → count_in l (take j lanes) ≤ count_in l (take (j + n) lanes)
count_grows l lanes j zero le = subst (λ m. count_in l (take j lanes) ≤ count_in l (take m lanes)) (let e : j ≡ j + zero = omega arith in e) (omega arith)
count_grows l lanes j (suc n) le =
    let i = count_grows l lanes j n (omega arith) in
    let m = count_more l lanes (j + n) (omega arith) in
    subst (λ p. count_in l (take j lanes) ≤ count_in l (take p lanes)) (let e : (j + n) + 1 ≡ j + suc n = omega arith in e) (omega (arith, i, m))

-- a command of a lane has fewer of its lane before it than one behind it
pub rank_below : (lanes : List ℕ) (j k : ℕ) → j < k → k < length lanes → lane_of lanes j ≡ lane_of lanes k → rank lanes j < rank lanes k
rank_below lanes j k lt in' same =
    let l = lane_of lanes k in
    let m = count_more l lanes j (omega arith) in
    let more : ℕ = cond (lane_of lanes j == l) 1 0 in
    let one : more ≡ 1 = ap (λ (n : ℕ). count_in l (n ∷ [])) same ∙ ap (λ b. cond b (suc 0) 0) (==-refl l) in
    let g = count_grows l lanes (j + 1) (k - (j + 1)) (omega arith) in
    let e : (j + 1) + (k - (j + 1)) ≡ k = omega arith in
    let g' : count_in l (take (j + 1) lanes) ≤ count_in l (take k lanes) = subst (λ n. count_in l (take (j + 1) lanes) ≤ count_in l (take n lanes)) e g in
    let r : rank lanes j ≡ count_in l (take j lanes) = ap (λ n. count_in n (take j lanes)) same in
    omega (arith, m, one, g', r)

-- so a command is known by its lane and its number there
pub rank_one : (lanes : List ℕ) (j k : ℕ) → j < length lanes → k < length lanes → lane_of lanes j ≡ lane_of lanes k → rank lanes j ≡ rank lanes k → j ≡ k
rank_one lanes j k in' in'' same e = elim (cases_eq j k) [
  | inl h ↦ h
  | inr ne ↦ absurd (elim (cases_lt j k ne) [
    | inl h ↦ let r = rank_below lanes j k h in'' same in omega (arith, r, e)
    | inr h ↦ let r = rank_below lanes k j h in' (sym same) in omega (arith, r, e)
  ])
]
  where
    cases_lt : (a b : ℕ) → a ≢ b → (a < b) ⊎ (b < a)
    cases_lt a b ne = grind (arith, ne)

-- ## one lane

lane_step : (lanes : List ℕ) (l k : ℕ) (js ks : List ℕ) (b : Bool) → in_lane lanes l (js ++ ks) ≡ in_lane lanes l js ++ in_lane lanes l ks
    → cond b (k ∷ in_lane lanes l (js ++ ks)) (in_lane lanes l (js ++ ks)) ≡ cond b (k ∷ in_lane lanes l js) (in_lane lanes l js) ++ in_lane lanes l ks
lane_step lanes l k js ks true e = ap (λ r. k ∷ r) e
lane_step lanes l k js ks false e = e

lane_append : (lanes : List ℕ) (l : ℕ) (js ks : List ℕ) → in_lane lanes l (js ++ ks) ≡ in_lane lanes l js ++ in_lane lanes l ks
lane_append lanes l [] ks = refl
lane_append lanes l (k ∷ js) ks = lane_step lanes l k js ks (lane_of lanes k == l) (lane_append lanes l js ks)

-- the items of a lane are the numbers of its commands there
pub items_are : (lanes : List ℕ) (l : ℕ) (order : List ℕ) → items_of l (as_items lanes order) ≡ map (rank lanes) (in_lane lanes l order)
items_are lanes l [] = refl
items_are lanes l (k ∷ order) = step (lane_of lanes k == l) (items_are lanes l order)
  where
    step : (b : Bool) → items_of l (as_items lanes order) ≡ map (rank lanes) (in_lane lanes l order)
        → cond b (rank lanes k ∷ items_of l (as_items lanes order)) (items_of l (as_items lanes order)) ≡ map (rank lanes) (cond b (k ∷ in_lane lanes l order) (in_lane lanes l order))
    step true e = ap (λ r. rank lanes k ∷ r) e
    step false e = e

-- ## all commands

-- the numbers up to one more
range_more : (k n : ℕ) → range_with_len k n ++ (k + n) ∷ [] ≡ range_with_len k (suc n)
range_more k zero = ap (λ m. m ∷ []) (let e : k + zero ≡ k = omega arith in e)
range_more k (suc n) = ap (λ r. k ∷ r) (ap (λ m. range_with_len (k + 1) n ++ m ∷ []) (let e : k + suc n ≡ (k + 1) + n = omega arith in e) ∙ range_more (k + 1) n)

range_next : (n : ℕ) → range_with_len 0 n ++ n ∷ [] ≡ range_with_len 0 (suc n)
range_next n = ap (λ m. range_with_len 0 n ++ m ∷ []) (let e : n ≡ 0 + n = omega arith in e) ∙ range_more 0 n

-- the commands of a lane in the job's own order are numbered range_with_len 0
pub ranks_all : (lanes : List ℕ) (l m : ℕ) → m ≤ length lanes → map (rank lanes) (in_lane lanes l (range_with_len 0 m)) ≡ range_with_len 0 (count_in l (take m lanes))
ranks_all lanes l zero le = refl
ranks_all lanes l (suc m) le =
    ap (λ ks. map (rank lanes) (in_lane lanes l ks)) (sym (range_next m))
    ∙ ap (map (rank lanes)) (lane_append lanes l (range_with_len 0 m) (m ∷ []))
    ∙ map-append (rank lanes) (in_lane lanes l (range_with_len 0 m)) (in_lane lanes l (m ∷ []))
    ∙ ap (λ r. r ++ map (rank lanes) (in_lane lanes l (m ∷ []))) (ranks_all lanes l m (omega arith))
    ∙ last
  where
    c : ℕ
    c = count_in l (take m lanes)

    grown : count_in l (take (suc m) lanes) ≡ c + cond (lane_of lanes m == l) 1 0
    grown = ap (λ n. count_in l (take n lanes)) (let e : suc m ≡ m + 1 = omega arith in e) ∙ count_more l lanes m (omega arith)

    last : range_with_len 0 c ++ map (rank lanes) (in_lane lanes l (m ∷ [])) ≡ range_with_len 0 (count_in l (take (suc m) lanes))
    last = elim (same_or_not (lane_of lanes m) l) [
      | inl h ↦
          ap (λ b. range_with_len 0 c ++ map (rank lanes) (cond b (m ∷ []) [])) h.1
          ∙ ap (λ n. range_with_len 0 c ++ count_in n (take m lanes) ∷ []) h.0
          ∙ range_next c
          ∙ ap (range_with_len 0) (let e : suc c ≡ c + 1 = omega arith in e ∙ sym (grown ∙ ap (λ b. c + cond b 1 0) h.1))
      | inr h ↦
          ap (λ b. range_with_len 0 c ++ map (rank lanes) (cond b (m ∷ []) [])) h.1 ∙ append-nil (range_with_len 0 c)
          ∙ ap (range_with_len 0) (let e : c ≡ c + 0 = omega arith in e ∙ sym (grown ∙ ap (λ b. c + cond b 1 0) h.1))
    ]

-- ## one order of a lane

-- a command of the job that is of the lane
abbrev pub IsOf : List ℕ → ℕ → ℕ → Type 0
IsOf lanes l k = (k < length lanes) × (lane_of lanes k ≡ l)

pub one_order : (lanes : List ℕ) (l : ℕ) (js ks : List ℕ) → Each (IsOf lanes l) js → Each (IsOf lanes l) ks → map (rank lanes) js ≡ map (rank lanes) ks → js ≡ ks
one_order lanes l [] [] a b e = refl
one_order lanes l [] (k ∷ ks) a b e = absurd (cc)
one_order lanes l (j ∷ js) [] a b e = absurd (cc)
one_order lanes l (j ∷ js) (k ∷ ks) a b e =
    let first : rank lanes j ≡ rank lanes k = cc in
    let others : map (rank lanes) js ≡ map (rank lanes) ks = cc in
    let head : j ≡ k = rank_one lanes j k a.0.0 b.0.0 (a.0.1 ∙ sym b.0.1) first in
    let tail : js ≡ ks = one_order lanes l js ks a.1 b.1 others in
    ap (λ n. n ∷ js) head ∙ ap (λ r. k ∷ r) tail

lane_fits_step : (lanes : List ℕ) (l k : ℕ) (ks : List ℕ) → k < length lanes → Each (IsOf lanes l) (in_lane lanes l ks) → (b : Bool) → (lane_of lanes k == l) ≡ b
    → Each (IsOf lanes l) (cond b (k ∷ in_lane lanes l ks) (in_lane lanes l ks))
lane_fits_step lanes l k ks lt rest true e = ((lt, grind (arith, nat_tests, e)), rest)
lane_fits_step lanes l k ks lt rest false e = rest

pub lane_fits : (lanes : List ℕ) (l : ℕ) (ks : List ℕ) → Each (λ k. k < length lanes) ks → Each (IsOf lanes l) (in_lane lanes l ks)
lane_fits lanes l [] a = tt
lane_fits lanes l (k ∷ ks) a = lane_fits_step lanes l k ks a.0 (lane_fits lanes l ks a.1) (lane_of lanes k == l) refl

no_lane : (lanes counts : List ℕ) (l : ℕ) (ks : List ℕ) → AreCounts lanes counts → length counts ≤ l → Each (λ k. k < length lanes) ks → in_lane lanes l ks ≡ []
no_lane lanes counts l [] counted le a = refl
no_lane lanes counts l (k ∷ ks) counted le a =
    let w = counted.within k a.0 in
    ap (λ b. cond b (k ∷ in_lane lanes l ks) (in_lane lanes l ks)) (apart (lane_of lanes k) l (omega (arith, w))) ∙ no_lane lanes counts l ks counted le a.1
  where
    apart : (a b : ℕ) → a < b → (a == b) ≡ false
    apart a b lt = grind (arith, nat_tests)

range_within : (b n m : ℕ) → b + n ≤ m → Each (λ k. k < m) (range_with_len b n)
range_within b zero m le = tt
range_within b (suc n) m le = (omega arith, range_within (b + 1) n m (omega arith))

-- ## members

pub member_here : (k x : ℕ) (xs : List ℕ) → list_any (eqb k) xs ≡ true → list_any (eqb k) (x ∷ xs) ≡ true
member_here k x xs e = step (eqb k x)
  where
    step : (b : Bool) → (b || list_any (eqb k) xs) ≡ true
    step true = refl
    step false = e

pub all_within : (n : ℕ) (order : List ℕ) → ((k : ℕ) → IsLed order k → k < n) → Each (λ k. k < n) order
all_within n [] within = tt
all_within n (x ∷ order) within =
    (within x (ap (λ b. b || list_any (eqb x) order) (eq-eqb x x refl)), all_within n order (λ k led. within k (member_here k x order led)))

pub member_of : (k x : ℕ) (xs : List ℕ) → list_any (eqb k) (x ∷ xs) ≡ true → (k ≡ x) ⊎ (list_any (eqb k) xs ≡ true)
member_of k x xs e = step (eqb k x) refl e
  where
    step : (b : Bool) → eqb k x ≡ b → (b || list_any (eqb k) xs) ≡ true → (k ≡ x) ⊎ (list_any (eqb k) xs ≡ true)
    step true is h = inl (eqb-true k x is)
    step false is h = inr h

pub member_first : (k x : ℕ) (xs : List ℕ) → k ≡ x → list_any (eqb k) (x ∷ xs) ≡ true
member_first k x xs e = ap (λ b. b || list_any (eqb k) xs) (eq-eqb k x e)

-- a command stands among those of its lane, and what stands there stands among all
lane_has_step : (lanes : List ℕ) (k x : ℕ) (ks : List ℕ) → list_any (eqb k) (x ∷ ks) ≡ true → (list_any (eqb k) ks ≡ true → list_any (eqb k) (in_lane lanes (lane_of lanes k) ks) ≡ true)
    → (b : Bool) → (lane_of lanes x == lane_of lanes k) ≡ b → list_any (eqb k) (cond b (x ∷ in_lane lanes (lane_of lanes k) ks) (in_lane lanes (lane_of lanes k) ks)) ≡ true
lane_has_step lanes k x ks h rec true is = elim (member_of k x ks h) [ inl e ↦ member_first k x _ e | inr r ↦ member_here k x _ (rec r) ]
lane_has_step lanes k x ks h rec false is = elim (member_of k x ks h) [
  | inl e ↦ absurd (let f = ap (λ n. n == lane_of lanes k) (sym (ap (lane_of lanes) e)) in let g = ==-refl (lane_of lanes k) in cc)
  | inr r ↦ rec r
]

pub lane_has : (lanes : List ℕ) (k : ℕ) (ks : List ℕ) → list_any (eqb k) ks ≡ true → list_any (eqb k) (in_lane lanes (lane_of lanes k) ks) ≡ true
lane_has lanes k [] h = h
lane_has lanes k (x ∷ ks) h = lane_has_step lanes k x ks h (lane_has lanes k ks) (lane_of lanes x == lane_of lanes k) refl

has_step : (lanes : List ℕ) (l k x : ℕ) (ks : List ℕ) → (list_any (eqb k) (in_lane lanes l ks) ≡ true → list_any (eqb k) ks ≡ true) → (b : Bool)
    → list_any (eqb k) (cond b (x ∷ in_lane lanes l ks) (in_lane lanes l ks)) ≡ true → list_any (eqb k) (x ∷ ks) ≡ true
has_step lanes l k x ks rec true h = elim (member_of k x (in_lane lanes l ks) h) [ inl e ↦ member_first k x ks e | inr r ↦ member_here k x ks (rec r) ]
has_step lanes l k x ks rec false h = member_here k x ks (rec h)

lane_only : (lanes : List ℕ) (l k : ℕ) (ks : List ℕ) → list_any (eqb k) (in_lane lanes l ks) ≡ true → list_any (eqb k) ks ≡ true
lane_only lanes l k [] h = h
lane_only lanes l k (x ∷ ks) h = has_step lanes l k x ks (lane_only lanes l k ks) (lane_of lanes x == l) h

range_has : (b n k : ℕ) → b ≤ k → k < b + n → list_any (eqb k) (range_with_len b n) ≡ true
range_has b zero k le lt = absurd (omega arith)
range_has b (suc n) k le lt = elim (same_or_not k b) [
  | inl h ↦ member_first k b (range_with_len (b + 1) n) h.0
  | inr h ↦ member_here k b (range_with_len (b + 1) n) (range_has (b + 1) n k (grind (arith, h.0)) (omega arith))
]

range_lacks : (b n k : ℕ) → k < b → list_any (eqb k) (range_with_len b n) ≡ false
range_lacks b zero k lt = refl
range_lacks b (suc n) k lt = ap (λ t. t || list_any (eqb k) (range_with_len (b + 1) n)) (ne_eqb k b (λ e. omega (arith, e))) ∙ range_lacks (b + 1) n k (omega arith)

pub range_below : (b n k : ℕ) → b + n ≤ k → list_any (eqb k) (range_with_len b n) ≡ false
range_below b zero k le = refl
range_below b (suc n) k le = ap (λ t. t || list_any (eqb k) (range_with_len (b + 1) n)) (ne_eqb k b (λ e. omega (arith, e))) ∙ range_below (b + 1) n k (omega arith)

nothing_twice : IsDistinct {K = ℕ} eqb []
unfolding IsDistinct
nothing_twice = tt

pub range_distinct : (n : ℕ) → IsDistinct eqb (range_with_len 0 n)
range_distinct zero = nothing_twice
range_distinct (suc n) = subst (IsDistinct eqb) (range_next n) (IsDistinct-push nat_eq_equiv (range_with_len 0 n) n (range_distinct n) (range_below 0 n n (omega arith)))

-- ## a merge

module _ (lanes counts order : List ℕ) (counted : AreCounts lanes counts) (led : AreLed (length lanes) order) (merge : IsMerge counts (as_items lanes order)) where
  n : ℕ
  n = length lanes

  here : Each (λ k. k < length lanes) order
  here = all_within (length lanes) order led.within

  there : Each (λ k. k < length lanes) (range_with_len 0 (length lanes))
  there = range_within 0 (length lanes) (length lanes) (omega arith)

  one_lane : (l : ℕ) → in_lane lanes l order ≡ in_lane lanes l (range_with_len 0 (length lanes))
  one_lane l = elim (below_or l (length counts)) [
    | inl lt ↦
        one_order lanes l (in_lane lanes l order) (in_lane lanes l (range_with_len 0 (length lanes))) (lane_fits lanes l order here) (lane_fits lanes l (range_with_len 0 (length lanes)) there)
        (sym (items_are lanes l order) ∙ merge.items l lt ∙ ap (range_with_len 0) (counted.each l lt ∙ ap (count_in l) (sym (take_all (length lanes) lanes (omega arith)))) ∙ sym (ranks_all lanes l (length lanes) (omega arith)))
    | inr le ↦ no_lane lanes counts l order counted le here ∙ sym (no_lane lanes counts l (range_with_len 0 (length lanes)) counted le there)
  ]
    where
      below_or : (a b : ℕ) → (a < b) ⊎ (b ≤ a)
      below_or a b = grind arith

  all_led : (k : ℕ) → list_any (eqb k) (range_with_len 0 (length lanes)) ≡ true → list_any (eqb k) order ≡ true
  all_led k h = lane_only lanes (lane_of lanes k) k order (subst (λ ks. list_any (eqb k) ks ≡ true) (sym (one_lane (lane_of lanes k))) (lane_has lanes k (range_with_len 0 (length lanes)) h))

  as_many : length order ≡ length lanes
  as_many =
      let few = length-le_from_distinct_below order (length lanes) led.once led.within in
      let many = length-le_from_is_member nat_eq_equiv (range_with_len 0 (length lanes)) order (range_distinct (length lanes)) all_led in
      let l = length-range_with_len 0 (length lanes) in
      omega (arith, few, many, l)

  -- the order in which the items of all lanes were served is a merge of the lanes
  pub merged_order : IsLaneOrder lanes order
  merged_order = record { each = record { led = led; all = as_many }; lanes' = one_lane }

-- ## one more place, by a test

pub count_one : (l : ℕ) (lanes : List ℕ) (k : ℕ) → k < length lanes → lane_of lanes k ≡ l → count_in l (take (k + 1) lanes) ≡ count_in l (take k lanes) + 1
count_one l lanes k lt e = count_more l lanes k lt ∙ ap (λ b. count_in l (take k lanes) + cond b (suc 0) 0) (ap (λ n. n == l) e ∙ ==-refl l)

pub count_other : (l : ℕ) (lanes : List ℕ) (k : ℕ) → k < length lanes → lane_of lanes k ≢ l → count_in l (take (k + 1) lanes) ≡ count_in l (take k lanes)
count_other l lanes k lt ne =
    let m = count_more l lanes k lt in
    let z : count_in l (take k lanes) + cond (lane_of lanes k == l) 1 0 ≡ count_in l (take k lanes) + 0 = ap (λ b. count_in l (take k lanes) + cond b (suc 0) 0) (apart (lane_of lanes k) l ne) in
    omega (arith, m, z)
  where
    apart : (a b : ℕ) → a ≢ b → (a == b) ≡ false
    apart a b ne = grind (arith, nat_tests, ne)

pub differ : (a b : ℕ) → a ≢ b → (a == b) ≡ false
differ a b ne = grind (arith, nat_tests, ne)

pub below_other : (a b : ℕ) → a < b + 1 → a ≢ b → a < b
below_other a b lt ne = grind (arith, lt, ne)
