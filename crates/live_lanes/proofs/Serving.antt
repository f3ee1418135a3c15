-- The next item of a lane is a command that wasn't led, and once it is led the items are in order again.
use Rattle.std.proofs.Common.{◌≡◌, inl, inr, ℕ, ◌+◌, ◌<◌, true, List, [], ◌∷◌, ◌++◌, length, map, sym, ap, ◌∙◌, subst, arith}
use Rattle.std.specs.Prelude.{slice_index, eqb}
use Rattle.std.specs.List.{list_any, range_with_len}
use Rattle.std.proofs.lemmas.List.{map-append}
use Rattle.desk_lock.specs.Journals.{IsInOrder, done_of, pair}
use Rattle.desk_lock.proofs.Keeping.{in_order}
use Rattle.word_machine_laws.specs.Orders.{IsLed, in_lane, lane_of}
use Rattle.live_lanes.specs.LaneItems.{as_item, as_items, rank}
use Rattle.live_lanes.proofs.Orders.{items_are, lane_has, member_first, member_here, member_of, range_below}

member_map : (f : ℕ → ℕ) (k : ℕ) (xs : List ℕ) → list_any (eqb k) xs ≡ true → list_any (eqb (f k)) (map f xs) ≡ true
member_map f k [] h = absurd (cc)
member_map f k (x ∷ xs) h = elim (member_of k x xs h) [
  | inl e ↦ member_first (f k) (f x) (map f xs) (ap f e)
  | inr r ↦ member_here (f k) (f x) (map f xs) (member_map f k xs r)
]

module _ (counts lanes order : List ℕ) (ordered : IsInOrder counts (as_items lanes order)) (k : ℕ) (in' : lane_of lanes k < length counts) (next : rank lanes k ≡ done_of (lane_of lanes k) (as_items lanes order)) where
  pub not_led : IsLed order k → ⊥
  not_led led =
      let l = lane_of lanes k in
      let d = done_of l (as_items lanes order) in
      let has = member_map (rank lanes) k (in_lane lanes l order) (lane_has lanes k order led) in
      let is : map (rank lanes) (in_lane lanes l order) ≡ range_with_len 0 d = sym (items_are lanes l order) ∙ ordered.items l in' in
      let h : list_any (eqb d) (range_with_len 0 d) ≡ true = subst (λ m. list_any (eqb m) (range_with_len 0 d) ≡ true) next (subst (λ xs. list_any (eqb (rank lanes k)) xs ≡ true) is has) in
      let lacks = range_below 0 d d (omega arith) in
      absurd (cc)

  pub items_more : as_items lanes (order ++ k ∷ []) ≡ as_items lanes order ++ as_item lanes k ∷ []
  items_more = map-append (as_item lanes) order (k ∷ [])

  pub order_more : rank lanes k < slice_index counts (lane_of lanes k) → IsInOrder counts (as_items lanes (order ++ k ∷ []))
  order_more left =
      let e : as_items lanes (order ++ k ∷ []) ≡ as_items lanes order ++ pair (lane_of lanes k) (done_of (lane_of lanes k) (as_items lanes order)) ∷ [] =
      items_more ∙ ap (λ (m : ℕ). as_items lanes order ++ pair (lane_of lanes k) m ∷ []) next in
      subst (IsInOrder counts) (sym e) (in_order counts (as_items lanes order) (lane_of lanes k) ordered in' (omega (arith, left, next)))
