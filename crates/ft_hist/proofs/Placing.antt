-- The history that lists of marked items make, and what one more item makes of it.
use Rattle.std.proofs.Common.{cond, ◌≡◌, ◌≢◌, ℕ, zero, suc, ◌+◌, ◌<◌, ◌≤◌, ◌⊎◌, true, false, ◌==◌, List, [], ◌∷◌, ◌++◌, length, Some, None, refl, sym, ap, ◌∙◌, subst, arith, inl, inr}
use Rattle.std.specs.List.{AllByRecursion as Each, fold}
use Rattle.std.proofs.lemmas.Bool.Decides.{nat_tests}
use Rattle.std.proofs.lemmas.Bool.{cases_eq}
use Rattle.std.proofs.lemmas.List.{length_push}
use Rattle.ft_base.specs.declared.item.Stamped.{Stamped}
use Rattle.ft_base.proofs.Small.{==-refl, Each-snoc, Each-weaker}
use Rattle.ft_hist.specs.Placing.{AreCounted, ArePlaced, before, item_among, item_in, or_item, past_below, times_among, times_in, total}

apart-after : (a b : ℕ) → a < b → (a == b) ≡ false
apart-after a b lt = grind (arith, nat_tests)

below-or-at : (a b : ℕ) → a < suc b → (a < b) ⊎ (a ≡ b)
below-or-at a b lt = grind arith

-- two numbers are one, or not
pub same-or-not : (a b : ℕ) → ((a ≡ b) × ((a == b) ≡ true)) ⊎ ((b ≢ a) × ((a == b) ≡ false))
same-or-not a b = elim (cases_eq a b) [
  | inl e ↦ inl (e, ap (λ n. n == b) e ∙ ==-refl b)
  | inr ne ↦ inr (λ e. ne (sym e), grind (arith, nat_tests, ne))
]

apart-before : (a b : ℕ) → b < a → (a == b) ≡ false
apart-before a b lt = grind (arith, nat_tests)

-- no item of a list is marked at a place that its items are below
none-in : (p : ℕ) (xs : List Stamped) → AreCounted p xs → item_in xs p ≡ None
none-in p [] k = refl
none-in p (x ∷ xs) k = ap (λ b. cond b (Some x.item) (item_in xs p)) (apart-after x.place p k.0) ∙ none-in p xs k.1

-- ## one more item

module _ (s : Stamped) where
  own-in : (xs : List Stamped) → AreCounted s.place xs → item_in (xs ++ s ∷ []) s.place ≡ Some s.item
  own-in [] k = ap (λ b. cond b (Some s.item) None) (==-refl s.place)
  own-in (x ∷ xs) k = ap (λ b. cond b (Some x.item) (item_in (xs ++ s ∷ []) s.place)) (apart-after x.place s.place k.0) ∙ own-in xs k.1

  other-in : (p : ℕ) → (s.place == p) ≡ false → (xs : List Stamped) → item_in (xs ++ s ∷ []) p ≡ item_in xs p
  other-in p e [] = ap (λ b. cond b (Some s.item) None) e
  other-in p e (x ∷ xs) = ap (λ o. cond (x.place == p) (Some x.item) o) (other-in p e xs)

  -- one of the lists has the item at its end, and the others are as before
  abbrev pub Grows : List (List Stamped) → List (List Stamped) → Type 0
  Grows [] ls' = ⊥
  Grows (xs ∷ ls) [] = ⊥
  Grows (xs ∷ ls) (ys ∷ ls') = ((ys ≡ xs ++ s ∷ []) × (ls' ≡ ls)) ⊎ ((ys ≡ xs) × Grows ls ls')

  own-among : (ls ls' : List (List Stamped)) → Grows ls ls' → Each (AreCounted s.place) ls → item_among ls' s.place ≡ Some s.item
  own-among [] ls' g k = absurd g
  own-among (xs ∷ ls) [] g k = absurd g
  own-among (xs ∷ ls) (ys ∷ ls') g k = elim g [
    | inl h ↦ ap (λ zs. or_item (item_in zs s.place) (item_among ls' s.place)) h.0 ∙ ap (λ o. or_item o (item_among ls' s.place)) (own-in xs k.0)
    | inr h ↦ ap (λ zs. or_item (item_in zs s.place) (item_among ls' s.place)) h.0 ∙ ap (λ o. or_item o (item_among ls' s.place)) (none-in s.place xs k.0)
        ∙ own-among ls ls' h.1 k.1
  ]

  other-among : (p : ℕ) → (s.place == p) ≡ false → (ls ls' : List (List Stamped)) → Grows ls ls' → item_among ls' p ≡ item_among ls p
  other-among p e [] ls' g = absurd g
  other-among p e (xs ∷ ls) [] g = absurd g
  other-among p e (xs ∷ ls) (ys ∷ ls') g = elim g [
    | inl h ↦ (λ i. or_item (item_in (h.0 i) p) (item_among (h.1 i) p)) ∙ ap (λ o. or_item o (item_among ls p)) (other-in p e xs)
    | inr h ↦ λ i. or_item (item_in (h.0 i) p) (other-among p e ls ls' h.1 i)
  ]

  module _ (ls ls' : List (List Stamped)) (g : Grows ls ls') where
    -- the items below its place are as before
    pub past-below : (m : ℕ) → m ≤ s.place → past_below ls' m ≡ past_below ls m
    past-below zero le = refl
    past-below (suc m) le = λ i. before (other-among m (apart-before s.place m le) ls ls' g i) (past-below m (omega (arith, le)) i)

    -- it is the latest
    pub past-grows : Each (AreCounted s.place) ls → past_below ls' (suc s.place) ≡ s.item ∷ past_below ls s.place
    past-grows k = λ i. before (own-among ls ls' g k i) (past-below s.place (omega arith) i)

-- ## places that are counted

pub counted-more : (n m : ℕ) → n ≤ m → (ls : List (List Stamped)) → Each (AreCounted n) ls → Each (AreCounted m) ls
counted-more n m le ls k =
    Each-weaker (AreCounted n) (AreCounted m) ls
    (λ xs h. Each-weaker (λ (x : Stamped). x.place < n) (λ (x : Stamped). x.place < m) xs (λ x lt. omega (arith, lt, le)) h) k

pub counted-grows : (s : Stamped) (ls ls' : List (List Stamped)) → Grows s ls ls' → Each (AreCounted s.place) ls → Each (AreCounted (suc s.place)) ls'
counted-grows s [] ls' g k = absurd g
counted-grows s (xs ∷ ls) [] g k = absurd g
counted-grows s (xs ∷ ls) (ys ∷ ls') g k = elim g [
  | inl h ↦ (
    subst (λ zs. AreCounted (suc s.place) zs) (sym h.0)
        (Each-snoc (λ (x : Stamped). x.place < suc s.place) xs s (counted-more s.place (suc s.place) (omega arith) (xs ∷ []) (k.0, tt)).0 (omega arith)),
    subst (λ zs. Each (AreCounted (suc s.place)) zs) (sym h.1) (counted-more s.place (suc s.place) (omega arith) ls k.1),
  )
  | inr h ↦ (
    subst (λ zs. AreCounted (suc s.place) zs) (sym h.0) (counted-more s.place (suc s.place) (omega arith) (xs ∷ []) (k.0, tt)).0,
    counted-grows s ls ls' h.1 k.1,
  )
]

-- ## places that are there once

none-times : (p : ℕ) (xs : List Stamped) → AreCounted p xs → times_in xs p ≡ 0
none-times p [] k = refl
none-times p (x ∷ xs) k = ap (λ b. cond b 1 0 + times_in xs p) (apart-after x.place p k.0) ∙ (let rest = none-times p xs k.1 in omega (arith, rest))

none-times-among : (p : ℕ) (ls : List (List Stamped)) → Each (AreCounted p) ls → times_among ls p ≡ 0
none-times-among p [] k = refl
none-times-among p (xs ∷ ls) k = let here = none-times p xs k.0 in let later = none-times-among p ls k.1 in omega (arith, here, later)

-- a sum that is begun at a number
summed-from : (k : ℕ) (ls : List (List Stamped)) → fold (λ (a : ℕ) (xs : List Stamped). a + length xs) (0 + k) ls ≡ k + total ls
summed-from k [] = omega arith
summed-from k (xs ∷ ls) =
    let begun : 0 + k + length xs ≡ 0 + (k + length xs) = omega arith in
    let all = ap (λ n. fold (λ (a : ℕ) (ys : List Stamped). a + length ys) n ls) begun ∙ summed-from (k + length xs) ls in
    let rest = summed-from (length xs) ls in
    omega (arith, all, rest)

module _ (s : Stamped) where
  -- it is there once more at its place, and at no other
  times-more : (p : ℕ) (xs : List Stamped) → times_in (xs ++ s ∷ []) p ≡ times_in xs p + times_in (s ∷ []) p
  times-more p [] = omega arith
  times-more p (x ∷ xs) = let more = times-more p xs in omega (arith, more)

  times-grow : (p : ℕ) (ls ls' : List (List Stamped)) → Grows s ls ls' → times_among ls' p ≡ times_among ls p + times_in (s ∷ []) p
  times-grow p [] ls' g = absurd g
  times-grow p (xs ∷ ls) [] g = absurd g
  times-grow p (xs ∷ ls) (ys ∷ ls') g = elim g [
    | inl h ↦ (let more = times-more p xs in let here = ap (λ zs. times_in zs p) h.0 in let later = ap (λ zs. times_among zs p) h.1 in
        omega (arith, more, here, later))
    | inr h ↦ (let here = ap (λ zs. times_in zs p) h.0 in let later = times-grow p ls ls' h.1 in omega (arith, here, later))
  ]

  total-head : (xs : List Stamped) (ls : List (List Stamped)) → total (xs ∷ ls) ≡ length xs + total ls
  total-head xs ls = (let all = summed-from (length xs) ls in omega (arith, all))

  total-grows : (ls ls' : List (List Stamped)) → Grows s ls ls' → total ls' ≡ suc (total ls)
  total-grows [] ls' g = absurd g
  total-grows (xs ∷ ls) [] g = absurd g
  total-grows (xs ∷ ls) (ys ∷ ls') g = elim g [
    | inl h ↦ (let here : length ys ≡ length xs + 1 = ap length h.0 ∙ length_push xs s in let later : total ls' ≡ total ls = ap total h.1 in
        let old : total (xs ∷ ls) ≡ length xs + total ls = total-head xs ls in let new : total (ys ∷ ls') ≡ length ys + total ls' = total-head ys ls' in
        omega (arith, here, later, old, new))
    | inr h ↦ (let here : length ys ≡ length xs = ap length h.0 in let later : total ls' ≡ suc (total ls) = total-grows ls ls' h.1 in
        let old : total (xs ∷ ls) ≡ length xs + total ls = total-head xs ls in let new : total (ys ∷ ls') ≡ length ys + total ls' = total-head ys ls' in
        omega (arith, here, later, old, new))
  ]

  module _ (ls ls' : List (List Stamped)) (g : Grows s ls ls') (is : ArePlaced s.place ls) where
    once-grown : (p : ℕ) → (p < s.place) ⊎ (p ≡ s.place) → times_among ls' p ≡ 1
    once-grown p (inl lt) =
        let had = is.once p lt in let all = times-grow p ls ls' g in
        let none : times_in (s ∷ []) p ≡ 0 = ap (λ b. cond b 1 0 + 0) (apart-before s.place p lt) in
        omega (arith, had, all, none)
    once-grown p (inr e) =
        let had : times_among ls p ≡ 0 = ap (λ q. times_among ls q) e ∙ none-times-among s.place ls is.below in
        let all = times-grow p ls ls' g in
        let one : times_in (s ∷ []) p ≡ 1 = ap (λ q. times_in (s ∷ []) q) e ∙ ap (λ b. cond b 1 0 + 0) (==-refl s.place) in
        omega (arith, had, all, one)

    placed-more : ArePlaced (suc s.place) ls'
    placed-more = record {
      count = total-grows ls ls' g ∙ ap suc is.count;
      below = counted-grows s ls ls' g is.below;
      once = λ p lt. once-grown p (below-or-at p s.place lt);
    }

-- one more item, at the next place
pub placed-grows : (s : Stamped) (ls ls' : List (List Stamped)) → Grows s ls ls' → ArePlaced s.place ls → ArePlaced (suc s.place) ls'
placed-grows s ls ls' g is = placed-more s ls ls' g is
