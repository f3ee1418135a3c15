-- What is written of lists of marked items, each at its place: if each place is there once, all of them by place.
use Rattle.std.proofs.Common.{cond, ◌≡◌, ℕ, zero, suc, ◌+◌, ◌<◌, ◌≤◌, ◌⊎◌, true, false, ◌==◌, List, [], ◌∷◌, ◌++◌, length, set, drop, take, get_or, replicate, reverse, Some, None, refl, sym, ap, ◌∙◌, subst, arith, inl, inr}
use Rattle.std.specs.Global.{Vec}
use Rattle.std.specs.List.{AllByRecursion as Each}
use Rattle.std.proofs.lemmas.List.{drop_more, get_or-set_other, get_or-set_same, length-replicate, length-reverse, length-set, reverse-append, take_all, take_more}
use Rattle.ft_base.specs.declared.item.Item.{Item}
use Rattle.ft_base.specs.declared.item.Item.TheVariants.{Begin}
use Rattle.ft_base.specs.declared.item.Stamped.{Stamped}
use Rattle.ft_hist.specs.Placing.{AreCounted, ArePlaced, before, by_place, item_among, item_in, items_of, or_item, past_below, placed, placed_all, times_among, times_in}
use Rattle.ft_hist.proofs.Placing.{same-or-not}

-- ## lengths

pub placed-length : (kept : List Item) (xs : List Stamped) → length (placed kept xs) ≡ length kept
placed-length kept [] = refl
placed-length kept (s ∷ rest) = placed-length (set kept s.place s.item) rest ∙ length-set kept s.place s.item

pub placed_all-length : (kept : List Item) (ls : List (List Stamped)) → length (placed_all kept ls) ≡ length kept
placed_all-length kept [] = refl
placed_all-length kept (xs ∷ rest) = placed_all-length (placed kept xs) rest ∙ placed-length kept xs

-- ## one place

module _ (p : ℕ) where
  -- how often the place is there, and what is there, if the head has it or not
  times-own : (s : Stamped) (rest : List Stamped) → (s.place == p) ≡ true → times_in (s ∷ rest) p ≡ suc (times_in rest p)
  times-own s rest e = ap (λ b. cond b 1 0 + times_in rest p) e ∙ omega arith

  times-other : (s : Stamped) (rest : List Stamped) → (s.place == p) ≡ false → times_in (s ∷ rest) p ≡ times_in rest p
  times-other s rest e = ap (λ b. cond b 1 0 + times_in rest p) e ∙ omega arith

  item-own : (s : Stamped) (rest : List Stamped) → (s.place == p) ≡ true → item_in (s ∷ rest) p ≡ Some s.item
  item-own s rest e = ap (λ b. cond b (Some s.item) (item_in rest p)) e

  item-other : (s : Stamped) (rest : List Stamped) → (s.place == p) ≡ false → item_in (s ∷ rest) p ≡ item_in rest p
  item-other s rest e = ap (λ b. cond b (Some s.item) (item_in rest p)) e

  none-item : (xs : List Stamped) → times_in xs p ≡ 0 → item_in xs p ≡ None
  none-item [] e = refl
  none-item (s ∷ rest) e = elim (same-or-not s.place p) [
    | inl h ↦ absurd (let t = times-own s rest h.1 in omega (arith, e, t))
    | inr h ↦ item-other s rest h.1 ∙ none-item rest (sym (times-other s rest h.1) ∙ e)
  ]

  -- a place that isn't there is left as it was
  none-written : (d : Item) (kept : List Item) (xs : List Stamped) → times_in xs p ≡ 0 → get_or (placed kept xs) p d ≡ get_or kept p d
  none-written d kept [] e = refl
  none-written d kept (s ∷ rest) e = elim (same-or-not s.place p) [
    | inl h ↦ absurd (let t = times-own s rest h.1 in omega (arith, e, t))
    | inr h ↦ none-written d (set kept s.place s.item) rest (sym (times-other s rest h.1) ∙ e) ∙ get_or-set_other kept s.place p s.item d h.0
  ]

  -- one that is there once has its item in the end
  one-written : (d : Item) (kept : List Item) (xs : List Stamped) → p < length kept → times_in xs p ≡ 1 → item_in xs p ≡ Some (get_or (placed kept xs) p d)
  one-written d kept [] lt e = absurd (omega (arith, e))
  one-written d kept (s ∷ rest) lt e = elim (same-or-not s.place p) [
    | inl h ↦ (let t = times-own s rest h.1 in
        item-own s rest h.1 ∙ ap (λ x. Some x) (sym (
        none-written d (set kept s.place s.item) rest (omega (arith, e, t))
        ∙ ap (λ q. get_or (set kept q s.item) p d) h.0 ∙ get_or-set_same kept p s.item d lt)))
    | inr h ↦ item-other s rest h.1
        ∙ one-written d (set kept s.place s.item) rest (subst (λ n. p < n) (sym (length-set kept s.place s.item)) lt) (sym (times-other s rest h.1) ∙ e)
  ]

  -- the same of several lists
  none-among : (ls : List (List Stamped)) → times_among ls p ≡ 0 → item_among ls p ≡ None
  none-among [] e = refl
  none-among (xs ∷ rest) e = ap (λ o. or_item o (item_among rest p)) (none-item xs (omega (arith, e))) ∙ none-among rest (omega (arith, e))

  none-written-among : (d : Item) (kept : List Item) (ls : List (List Stamped)) → times_among ls p ≡ 0 → get_or (placed_all kept ls) p d ≡ get_or kept p d
  none-written-among d kept [] e = refl
  none-written-among d kept (xs ∷ rest) e =
      none-written-among d (placed kept xs) rest (omega (arith, e)) ∙ none-written d kept xs (omega (arith, e))

  one-written-among : (d : Item) (kept : List Item) (ls : List (List Stamped)) → p < length kept → times_among ls p ≡ 1
      → item_among ls p ≡ Some (get_or (placed_all kept ls) p d)
  one-written-among d kept [] lt e = absurd (omega (arith, e))
  one-written-among d kept (xs ∷ rest) lt e = elim (here-or-later (times_in xs p) (times_among rest p) e) [
    | inl h ↦ ap (λ o. or_item o (item_among rest p)) (one-written d kept xs lt h.0)
        ∙ ap (λ x. Some x) (sym (none-written-among d (placed kept xs) rest h.1))
    | inr h ↦ ap (λ o. or_item o (item_among rest p)) (none-item xs h.0)
        ∙ one-written-among d (placed kept xs) rest (subst (λ n. p < n) (sym (placed-length kept xs)) lt) h.1
  ]
    where
      here-or-later : (a b : ℕ) → a + b ≡ 1 → ((a ≡ 1) × (b ≡ 0)) ⊎ ((a ≡ 0) × (b ≡ 1))
      here-or-later zero b e = inr (refl, omega (arith, e))
      here-or-later (suc a) b e = inl (omega (arith, e), omega (arith, e))

-- ## all places

reverse-more : (x : Item) (xs : List Item) → reverse (x ∷ xs) ≡ reverse xs ++ x ∷ []
reverse-more x xs = reverse-append (x ∷ []) xs

module _ (n : ℕ) (ls : List (List Stamped)) (is : ArePlaced n ls) (kept : List Item) (long : length kept ≡ n) where
  all-length : length (placed_all kept ls) ≡ n
  all-length = placed_all-length kept ls ∙ long

  -- the first places are written as they should be
  written-below : (m : ℕ) → m ≤ n → reverse (past_below ls m) ≡ take m (placed_all kept ls)
  written-below zero le = refl
  written-below (suc m) le =
      let lt : m < n = omega (arith, le) in
      let within : m < length (placed_all kept ls) = subst (λ k. m < k) (sym all-length) lt in
      let there : item_among ls m ≡ Some (get_or (placed_all kept ls) m (Begin 0))
      = one-written-among m (Begin 0) kept ls (subst (λ k. m < k) (sym long) lt) (is.once m lt) in
      let next : m + 1 ≡ suc m = omega arith in
      ap (λ o. reverse (before o (past_below ls m))) there
      ∙ reverse-more (get_or (placed_all kept ls) m (Begin 0)) (past_below ls m)
      ∙ ap (λ xs. xs ++ get_or (placed_all kept ls) m (Begin 0) ∷ []) (written-below m (omega (arith, le)))
      ∙ sym (take_more (placed_all kept ls) m (Begin 0) within)
      ∙ ap (λ k. take k (placed_all kept ls)) next

  -- each item stands at its place
  pub placed-by_place : placed_all kept ls ≡ by_place ls
  placed-by_place =
      sym (take_all n (placed_all kept ls) (let l = all-length in omega (arith, l)))
      ∙ sym (written-below n (omega arith))
      ∙ ap (λ k. reverse (past_below ls k)) (sym is.count)

  -- and there are as many as places
  past-long : length (past_below ls n) ≡ n
  past-long =
      sym (length-reverse (past_below ls n))
      ∙ ap length (written-below n (omega arith))
      ∙ ap length (take_all n (placed_all kept ls) (let l = all-length in omega (arith, l))) ∙ all-length

pub past-length : (n : ℕ) (ls : List (List Stamped)) → ArePlaced n ls → length (past_below ls n) ≡ n
past-length n ls is = past-long n ls is (replicate n (Begin 0)) (length-replicate n (Begin 0))

-- ## one more list

-- what it leaves to be written over it is what there was to be written before
pub one-more-list : (kept new : List Item) (vs : List (Vec Stamped)) (i : ℕ) (v : Vec Stamped) → i < length vs → v ≡ get_or vs i v
    → new ≡ placed kept v.items → Each (AreCounted (length kept)) (items_of (drop i vs))
    → (placed_all new (items_of (drop (i + 1) vs)) ≡ placed_all kept (items_of (drop i vs)))
    × Each (AreCounted (length new)) (items_of (drop (i + 1) vs))
one-more-list kept new vs i v lt is e within =
    let left : drop i vs ≡ v ∷ drop (i + 1) vs = drop_more vs i v lt ∙ ap (λ w. w ∷ drop (i + 1) vs) (sym is) in
    let long : length new ≡ length kept = ap length e ∙ placed-length kept v.items in (
      ap (λ xs. placed_all xs (items_of (drop (i + 1) vs))) e ∙ sym (ap (λ ws. placed_all kept (items_of ws)) left),
      subst (λ k. Each (AreCounted k) (items_of (drop (i + 1) vs))) (sym long)
          (subst (λ ws. Each (AreCounted (length kept)) (items_of ws)) left within).1,
    )
