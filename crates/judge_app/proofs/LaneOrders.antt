-- The order that names of lanes tell is one of the lanes, and names that are those of an order tell it.
use Rattle.std.proofs.Common.{cond, ◌≡◌, ◌<◌, ◌≤◌, ℕ, zero, suc, ◌+◌, Bool, true, false, ◌==◌, List, [], ◌∷◌, ◌++◌, length, Option, Some, None, position, get_or, drop, take, refl, sym, ap, ap₂, ◌∙◌, append_assoc, append-nil, subst, arith, eqb-true}
use Rattle.std.specs.Prelude.{eqb}
use Rattle.std.specs.List.{AllByRecursion as Each, position_from, range_with_len, remove}
use Rattle.std.specs.List.Sorted.{IsPermutation}
use Rattle.std.proofs.lemmas.Bool.Decides.{nat_tests}
use Rattle.std.proofs.lemmas.List.{drop_more}
use Rattle.std.proofs.Math.Seq.{take-append_seam}
use Rattle.std.proofs.lemmas.Iterator.Adapters.{position_from-zero}
use Rattle.std.proofs.lemmas.List.FromFn.{length-range_with_len}
use Rattle.std.proofs.lemmas.List.Sorted.{IsPermutation-refl, IsPermutation-trans, IsPermutation-cons, IsPermutation-middle, list_any-IsPermutation, length_permutation}
use Rattle.std.proofs.lemmas.Map.Keys.{IsDistinct-IsPermutation}
use Rattle.ft_base.proofs.Small.{==-refl, false_true}
use Rattle.control_core.proofs.Leading.{all-led}
use Rattle.word_machine_laws.specs.Orders.{AreLed, IsLaneOrder, picked, lane_of, in_lane}
use Rattle.word_machine_laws.proofs.LedLists.{picked_all, picked_append}
use Rattle.script_jobs.proofs.LaneOrders.{each-led, own-lane, other-lane, picked-all, picked-first}
use Rattle.judge_app.specs.Lanes.{found_after, first_of, goes, told, told_order}

module _ (lanes : List ℕ) where
  -- ## the first line of a lane

  -- the line that is found, and the others
  pub record IsFirst (l : ℕ) (left : List ℕ) (k : ℕ) (rest : List ℕ) : Type 0 where
    pub lane : (lane_of lanes k == l) ≡ true
    pub lanes' : (m : ℕ) → in_lane lanes m (k ∷ rest) ≡ in_lane lanes m left
    pub moved : IsPermutation left (k ∷ rest)

  skipped : (l j : ℕ) (js : List ℕ) (k : ℕ) (rest : List ℕ) → (lane_of lanes j == l) ≡ false → IsFirst l js k rest → IsFirst l (j ∷ js) k (j ∷ rest)
  skipped l j js k rest other is = record {
    lane = is.lane;
    lanes' = λ m. by m (lane_of lanes j == m) refl (lane_of lanes k == m) refl;
    moved = IsPermutation-trans (j ∷ js) (j ∷ k ∷ rest) (k ∷ j ∷ rest) (IsPermutation-cons j js (k ∷ rest) is.moved) (IsPermutation-middle (j ∷ []) k rest);
  }
    where
      by : (m : ℕ) (b : Bool) → (lane_of lanes j == m) ≡ b → (c : Bool) → (lane_of lanes k == m) ≡ c → in_lane lanes m (k ∷ j ∷ rest) ≡ in_lane lanes m (j ∷ js)
      by m true own true own' =
          let same : lane_of lanes j ≡ lane_of lanes k = eqb-true (lane_of lanes j) m own ∙ sym (eqb-true (lane_of lanes k) m own') in
          absurd (false_true (sym other ∙ ap (λ n. n == l) same ∙ is.lane))
      by m true own false e =
          other-lane lanes m k (j ∷ rest) e ∙ own-lane lanes m j rest own ∙ ap (λ (t : List ℕ). j ∷ t) (sym (other-lane lanes m k rest e) ∙ is.lanes' m) ∙ sym (own-lane lanes m j js own)
      by m false e true own =
          own-lane lanes m k (j ∷ rest) own ∙ ap (λ (t : List ℕ). k ∷ t) (other-lane lanes m j rest e) ∙ sym (own-lane lanes m k rest own) ∙ is.lanes' m ∙ sym (other-lane lanes m j js e)
      by m false e false f =
          other-lane lanes m k (j ∷ rest) f ∙ other-lane lanes m j rest e ∙ sym (other-lane lanes m k rest f) ∙ is.lanes' m ∙ sym (other-lane lanes m j js e)

  -- what the search gives: the first line of the lane, or there is none
  pub data Found (l : ℕ) (left : List ℕ) : Option (ℕ × List ℕ) → Type 0 where
    no_line : in_lane lanes l left ≡ [] → Found l left None
    a_line : (k : ℕ) (rest : List ℕ) → IsFirst l left k rest → Found l left (Some (k, rest))

  pub first-found : (l : ℕ) (left : List ℕ) → Found l left (first_of lanes l left)
  first-found l [] = no_line refl
  first-found l (j ∷ js) = by (lane_of lanes j == l) refl (first-found l js)
    where
      after : (lane_of lanes j == l) ≡ false → (found : Option (ℕ × List ℕ)) → Found l js found → Found l (j ∷ js) (found_after j found)
      after other None (no_line e) = no_line (other-lane lanes l j js other ∙ e)
      after other (Some t) (a_line k rest is) = a_line k (j ∷ rest) (skipped l j js k rest other is)

      by : (b : Bool) → (lane_of lanes j == l) ≡ b → Found l js (first_of lanes l js) → Found l (j ∷ js) (cond b (Some (j, js)) (found_after j (first_of lanes l js)))
      by true own more = a_line j js (record { lane = own; lanes' = λ m. refl; moved = IsPermutation-refl (j ∷ js) })
      by false other more = after other (first_of lanes l js) more

  -- ## the order

  -- it has the lines of each lane in their own order, and all lines
  pub told-lanes : (named left : List ℕ) (m : ℕ) → in_lane lanes m (told lanes named left) ≡ in_lane lanes m left
  told-lanes [] left m = refl
  told-lanes (l ∷ named) left m = by (first_of lanes l left) (first-found l left) (λ xs. told-lanes named xs m)
    where
      with-first : (k : ℕ) (xs ys : List ℕ) → in_lane lanes m xs ≡ in_lane lanes m ys → in_lane lanes m (k ∷ xs) ≡ in_lane lanes m (k ∷ ys)
      with-first k xs ys e = ap (λ (t : List ℕ). cond (lane_of lanes k == m) (k ∷ t) t) e

      by : (found : Option (ℕ × List ℕ)) → Found l left found → ((xs : List ℕ) → in_lane lanes m (told lanes named xs) ≡ in_lane lanes m xs)
          → in_lane lanes m (goes found (told lanes named) left) ≡ in_lane lanes m left
      by None (no_line e) more = more left
      by (Some t) (a_line k rest is) more = with-first k (told lanes named rest) rest (more rest) ∙ is.lanes' m

  pub told-moved : (named left : List ℕ) → IsPermutation left (told lanes named left)
  told-moved [] left = IsPermutation-refl left
  told-moved (l ∷ named) left = by (first_of lanes l left) (first-found l left) (told-moved named)
    where
      by : (found : Option (ℕ × List ℕ)) → Found l left found → ((xs : List ℕ) → IsPermutation xs (told lanes named xs)) → IsPermutation left (goes found (told lanes named) left)
      by None (no_line e) more = more left
      by (Some t) (a_line k rest is) more =
          IsPermutation-trans left (k ∷ rest) (k ∷ told lanes named rest) is.moved (IsPermutation-cons k rest (told lanes named rest) (more rest))

  pub told-order : (named : List ℕ) → IsLaneOrder lanes (told_order lanes named)
  told-order named =
      let n = length lanes in
      let all = range_with_len 0 n in
      let order = told_order lanes named in
      let moved : IsPermutation all order = told-moved named all in
      let led : AreLed n all = all-led n in
      record {
        each = record {
          led = record {
            once = IsDistinct-IsPermutation eqb flips all order moved led.once;
            within = λ k is. led.within k (list_any-IsPermutation (eqb k) all order moved ∙ is);
          };
          all = length_permutation all order moved ∙ length-range_with_len 0 n;
        };
        lanes' = told-lanes named all;
      }
    where
      flips : (x y : ℕ) → eqb x y ≡ eqb y x
      flips x y = grind (arith, nat_tests)

  -- ## names that are those of an order

  abbrev Below : ℕ → Type 0
  Below k = k < length lanes

  -- a lane that has lines has a first one
  first-is : (l k : ℕ) (ks left : List ℕ) → in_lane lanes l left ≡ k ∷ ks → (found : Option (ℕ × List ℕ)) → Found l left found
      → (rest : List ℕ) × (found ≡ Some (k, rest)) × IsFirst l left k rest
  first-is l k ks left e None (no_line empty) = (let some : [] ≡ k ∷ ks = sym empty ∙ e in absurd cc)
  first-is l k ks left e (Some t) (a_line j rest is) =
      let both : j ∷ in_lane lanes l rest ≡ k ∷ ks = sym (own-lane lanes l j rest is.lane) ∙ is.lanes' l ∙ e in
      let same : j ≡ k = cc in
      (rest, ap (λ (n : ℕ). Some (n, rest)) same, subst (λ (n : ℕ). IsFirst l left n rest) same is)

  -- the lanes of these lines, and then any, tell these lines first
  pub tells-front : (front back named left : List ℕ) → Each Below front → ((m : ℕ) → in_lane lanes m (front ++ back) ≡ in_lane lanes m left)
      → (rest : List ℕ) × (told lanes (picked lanes front ++ named) left ≡ front ++ told lanes named rest) × ((m : ℕ) → in_lane lanes m back ≡ in_lane lanes m rest)
  tells-front [] back named left below same = (left, refl, same)
  tells-front (k ∷ front) back named left below same =
      let l = lane_of lanes k in
      let own : (lane_of lanes k == l) ≡ true = ==-refl l in
      let here : in_lane lanes l left ≡ k ∷ in_lane lanes l (front ++ back) = sym (same l) ∙ own-lane lanes l k (front ++ back) own in
      let first = first-is l k (in_lane lanes l (front ++ back)) left here (first_of lanes l left) (first-found l left) in
      let rest = first.0 in
      let is = first.2 in
      let more = tells-front front back named rest below.1 (λ m. tail m k (front ++ back) rest (same m ∙ sym (is.lanes' m))) in (
        more.0,
        ap (λ (ls : List ℕ). told lanes (ls ++ named) left) (picked-first lanes k front below.0)
            ∙ ap (λ (found : Option (ℕ × List ℕ)). goes found (told lanes (picked lanes front ++ named)) left) first.1
            ∙ ap (λ (t : List ℕ). k ∷ t) more.1,
        more.2,
      )
    where
      tail : (m k : ℕ) (xs ys : List ℕ) → in_lane lanes m (k ∷ xs) ≡ in_lane lanes m (k ∷ ys) → in_lane lanes m xs ≡ in_lane lanes m ys
      tail m k xs ys e = by (lane_of lanes k == m) refl e
        where
          by : (b : Bool) → (lane_of lanes k == m) ≡ b → in_lane lanes m (k ∷ xs) ≡ in_lane lanes m (k ∷ ys) → in_lane lanes m xs ≡ in_lane lanes m ys
          by true own e = (let both : k ∷ in_lane lanes m xs ≡ k ∷ in_lane lanes m ys = sym (own-lane lanes m k xs own) ∙ e ∙ own-lane lanes m k ys own in cc)
          by false other e = sym (other-lane lanes m k xs other) ∙ e ∙ other-lane lanes m k ys other

  no-lines : (xs : List ℕ) → ((m : ℕ) → in_lane lanes m xs ≡ []) → xs ≡ []
  no-lines [] empty = refl
  no-lines (k ∷ xs) empty =
      (let some : k ∷ in_lane lanes (lane_of lanes k) xs ≡ [] = sym (own-lane lanes (lane_of lanes k) k xs (==-refl (lane_of lanes k))) ∙ empty (lane_of lanes k) in absurd cc)

  -- an order of the lanes is told by its lanes
  pub order-told : (order : List ℕ) → IsLaneOrder lanes order → told_order lanes (picked lanes order) ≡ order
  order-told order is =
      let all = range_with_len 0 (length lanes) in
      let below : Each Below order = each-led Below order is.each.led.within in
      let told' = tells-front order [] [] all below (λ m. ap (λ (t : List ℕ). in_lane lanes m t) (append-nil order) ∙ is.lanes' m) in
      let none : told'.0 ≡ [] = no-lines told'.0 (λ m. sym (told'.2 m)) in
      ap (λ (ls : List ℕ). told lanes ls all) (sym (append-nil (picked lanes order))) ∙ told'.1 ∙ ap (λ (t : List ℕ). order ++ t) none ∙ append-nil order

  -- ## names that are those of the first lines

  -- they tell the lines as they stand
  told-first : (front back : List ℕ) → Each Below front → told lanes (picked lanes front) (front ++ back) ≡ front ++ back
  told-first [] back below = refl
  told-first (k ∷ front) back below =
      let left = front ++ back in
      let next = told lanes (picked lanes front) in
      ap (λ (ls : List ℕ). told lanes ls (k ∷ left)) (picked-first lanes k front below.0)
      ∙ ap (λ (b : Bool). goes (cond b (Some (k, left)) (found_after k (first_of lanes (lane_of lanes k) left))) next (k ∷ left)) (==-refl (lane_of lanes k))
      ∙ ap (λ (t : List ℕ). k ∷ t) (told-first front back below.1)

  split : (a k n : ℕ) → k ≤ n → (back : List ℕ) × (range_with_len a n ≡ range_with_len a k ++ back)
  split a zero n le = (range_with_len a n, refl)
  split a (suc k) zero le = absurd (omega (arith, le))
  split a (suc k) (suc n) le = let more = split (a + 1) k n (omega (arith, le)) in (more.0, ap (λ (t : List ℕ). a ∷ t) more.1)

  range-below : (a k : ℕ) → a + k ≤ length lanes → Each Below (range_with_len a k)
  range-below a zero le = tt
  range-below a (suc k) le = (omega (arith, le), range-below (a + 1) k (omega (arith, le)))

  pub order-stands : (k : ℕ) → k ≤ length lanes → told_order lanes (take k lanes) ≡ range_with_len 0 (length lanes)
  order-stands k le =
      let n = length lanes in
      let front = range_with_len 0 k in
      let all = split 0 k n le in
      let below : Each Below front = range-below 0 k (omega (arith, le)) in
      let size : length (picked lanes front) ≡ k = picked-all lanes front below ∙ length-range_with_len 0 k in
      let whole : lanes ≡ picked lanes front ++ picked lanes all.0 =
      sym (picked_all lanes n (omega arith)) ∙ ap (λ (ks : List ℕ). picked lanes ks) all.1 ∙ picked_append lanes front all.0 in
      let names : take k lanes ≡ picked lanes front =
      ap (λ (ls : List ℕ). take k ls) whole ∙ ap (λ (m : ℕ). take m (picked lanes front ++ picked lanes all.0)) (sym size)
      ∙ take-append_seam (picked lanes front) (picked lanes all.0) in
      ap (λ (ls : List ℕ). told_order lanes ls) names ∙ ap (λ (ks : List ℕ). told lanes (picked lanes front) ks) all.1 ∙ told-first front all.0 below ∙ sym all.1

-- ## the place of the first line

-- where a search from place i on finds it
abbrev IsPlaced : List ℕ → ℕ → Option (ℕ × List ℕ) → Option ℕ → Type 0
IsPlaced left i None None = Unit {0}
IsPlaced left i (Some t) (Some j) = (n : ℕ) × (j ≡ i + n) × (t.0 ≡ get_or left n 0) × (t.1 ≡ remove left n)
IsPlaced left i None (Some j) = ⊥
IsPlaced left i (Some t) None = ⊥

placed-from : (lanes : List ℕ) (l : ℕ) (left : List ℕ) (i : ℕ) → IsPlaced left i (first_of lanes l left) (position_from (λ k. lane_of lanes k == l) i left)
placed-from lanes l [] i = tt
placed-from lanes l (k ∷ ks) i = by (lane_of lanes k == l) (placed-from lanes l ks (i + 1))
  where
    after : (found : Option (ℕ × List ℕ)) (place : Option ℕ) → IsPlaced ks (i + 1) found place → IsPlaced (k ∷ ks) i (found_after k found) place
    after None None h = tt
    after (Some t) (Some j) h = (suc h.0, (let e = h.1 in omega (arith, e)), h.2, ap (λ (xs : List ℕ). k ∷ xs) h.3)
    after None (Some j) h = h
    after (Some t) None h = h

    by : (b : Bool) → IsPlaced ks (i + 1) (first_of lanes l ks) (position_from (λ k. lane_of lanes k == l) (i + 1) ks)
        → IsPlaced (k ∷ ks) i (cond b (Some (k, ks)) (found_after k (first_of lanes l ks))) (cond b (Some i) (position_from (λ k. lane_of lanes k == l) (i + 1) ks))
    by true h = (0, omega arith, refl, refl)
    by false h = after (first_of lanes l ks) (position_from (λ k. lane_of lanes k == l) (i + 1) ks) h

module _ (lanes : List ℕ) (l : ℕ) (left : List ℕ) where
  placed : IsPlaced left 0 (first_of lanes l left) (position (λ k. lane_of lanes k == l) left)
  placed = subst (IsPlaced left 0 (first_of lanes l left)) (sym (position_from-zero (λ k. lane_of lanes k == l) left)) (placed-from lanes l left 0)

  pub no-place : position (λ k. lane_of lanes k == l) left ≡ None → first_of lanes l left ≡ None
  no-place e = by (first_of lanes l left) (subst (IsPlaced left 0 (first_of lanes l left)) e placed)
    where
      by : (found : Option (ℕ × List ℕ)) → IsPlaced left 0 found None → found ≡ None
      by None h = refl
      by (Some t) h = absurd h

  pub a-place : (i : ℕ) → position (λ k. lane_of lanes k == l) left ≡ Some i → first_of lanes l left ≡ Some (get_or left i 0, remove left i)
  a-place i e = by (first_of lanes l left) (subst (IsPlaced left 0 (first_of lanes l left)) e placed)
    where
      by : (found : Option (ℕ × List ℕ)) → IsPlaced left 0 found (Some i) → found ≡ Some (get_or left i 0, remove left i)
      by None h = absurd h
      by (Some t) h =
          let is : h.0 ≡ i = (let e = h.1 in omega (arith, e)) in
          ap₂ (λ n ns. Some (n, ns)) (h.2 ∙ ap (λ n. get_or left n 0) is) (h.3 ∙ ap (λ n. remove left n) is)

-- ## name by name

module _ (lanes named order left : List ℕ) (i : ℕ) (lt : i < length named) where
  -- what the names from this one on tell
  next-told : told lanes (drop i named) left ≡ goes (first_of lanes (get_or named i 0) left) (told lanes (drop (i + 1) named)) left
  next-told = ap (λ ns. told lanes ns left) (drop_more named i 0 lt)

  -- a name takes a line
  pub told-found : (k : ℕ) (rest : List ℕ) → first_of lanes (get_or named i 0) left ≡ Some (k, rest)
      → (order ++ k ∷ []) ++ told lanes (drop (i + 1) named) rest ≡ order ++ told lanes (drop i named) left
  told-found k rest found =
      append_assoc order (k ∷ []) (told lanes (drop (i + 1) named) rest)
      ∙ ap (λ (t : List ℕ). order ++ t) (sym (next-told ∙ ap (λ f. goes f (told lanes (drop (i + 1) named)) left) found))

  -- or is passed over
  pub told-passed : first_of lanes (get_or named i 0) left ≡ None → order ++ told lanes (drop (i + 1) named) left ≡ order ++ told lanes (drop i named) left
  told-passed none = ap (λ (t : List ℕ). order ++ t) (sym (next-told ∙ ap (λ f. goes f (told lanes (drop (i + 1) named)) left) none))
