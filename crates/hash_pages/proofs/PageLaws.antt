-- The stores of a page, one by one.
use Rattle.std.proofs.Common.{◌≡◌, ◌≢◌, ℕ, zero, suc, ◌+◌, ◌*◌, ◌-◌, ◌<◌, List, [], ◌∷◌, ◌++◌, Some, None, length, map, option_map, refl, ap, sym, subst, ◌∙◌, inl, inr, arith, length-append}
use Rattle.std.specs.Prelude.{Option}
use Rattle.std.specs.List.{range_with_len, slice_get}
use Rattle.std.proofs.lemmas.Bool.{cases_eq, cases_lt}
use Rattle.std.proofs.lemmas.Option.{slice_get_past, slice_get-get_or, slice_get-map}
use Rattle.std.proofs.lemmas.List.FromFn.{length-range_with_len, get_or-range_with_len, length-map-range_with_len}
use Rattle.filter_hash.specs.Pair.{Pair}
use Rattle.word_map.specs.Words.{Sel, Bits}
use Rattle.word_map.specs.Contents.{other_copy}
use Rattle.word_map.specs.Places.{words_for}
use Rattle.word_map.specs.declared.op.Op.{Op}
use Rattle.word_map.specs.Ops.{WordOp, Store, placed}
use Rattle.hash_pages.specs.Pages.{Page, filter_store, notrace_store, page_stores, page_next}

-- ## lists

-- an item of the first of two lists, and of the second
front : {A : Type 0} (xs ys : List A) (i : ℕ) → i < length xs → slice_get (xs ++ ys) i ≡ slice_get xs i
front [] ys i h = absurd (omega arith)
front (x ∷ xs) ys zero h = refl
front (x ∷ xs) ys (suc i) h = front xs ys i (omega arith)

back : {A : Type 0} (xs ys : List A) (i j : ℕ) → i ≡ length xs + j → slice_get (xs ++ ys) i ≡ slice_get ys j
back [] ys i j e = let same : i ≡ j = omega arith in ap (slice_get ys) same
back (x ∷ xs) ys zero j e = absurd (omega arith)
back (x ∷ xs) ys (suc i) j e = back xs ys i j (omega arith)

-- an item of a list that is made by number
numbered : {A : Type 0} (f : ℕ → A) (n i : ℕ) → i < n → slice_get (map f (range_with_len 0 n)) i ≡ Some (f i)
numbered f n i h =
    let long : length (range_with_len 0 n) ≡ n = length-range_with_len 0 n in
    let same : 0 + i ≡ i = omega arith in
    slice_get-map f (range_with_len 0 n) i
    ∙ ap (option_map f) (slice_get-get_or (range_with_len 0 n) i 0 (omega arith) ∙ ap Some (get_or-range_with_len 0 n i 0 h ∙ same))

-- two lists and one more
module _ {A : Type 0} (xs ys : List A) (z : A) where
  in_first : (i : ℕ) → i < length xs → slice_get (xs ++ ys ++ z ∷ []) i ≡ slice_get xs i
  in_first i h = front (xs ++ ys) (z ∷ []) i (omega (arith, length-append xs ys)) ∙ front xs ys i h

  in_second : (i j : ℕ) → i ≡ length xs + j → j < length ys → slice_get (xs ++ ys ++ z ∷ []) i ≡ slice_get ys j
  in_second i j e h = front (xs ++ ys) (z ∷ []) i (omega (arith, length-append xs ys)) ∙ back xs ys i j e

  at_last : (i : ℕ) → i ≡ length xs + length ys → slice_get (xs ++ ys ++ z ∷ []) i ≡ Some z
  at_last i e = back (xs ++ ys) (z ∷ []) i 0 (omega (arith, length-append xs ys))

  past_all : (i : ℕ) → length xs + length ys < i → slice_get (xs ++ ys ++ z ∷ []) i ≡ None
  past_all i h = slice_get_past (xs ++ ys ++ z ∷ []) i (omega (arith, length-append xs ys, length-append (xs ++ ys) (z ∷ [])))

  how_many : length (xs ++ ys ++ z ∷ []) ≡ length xs + length ys + 1
  how_many = omega (arith, length-append xs ys, length-append (xs ++ ys) (z ∷ []))

-- ## the stores

module _ (p : Page) (pair : Pair) where
  abbrev filters : List WordOp
  filters = map (filter_store p.user p.copy pair) (range_with_len 0 (words_for p.shape.funcs))

  abbrev notraces : List WordOp
  notraces = map (notrace_store p.user p.copy pair) (range_with_len 0 (words_for p.shape.funcs))

  filters_long : length filters ≡ words_for p.shape.funcs
  filters_long = length-map-range_with_len (filter_store p.user p.copy pair) 0 (words_for p.shape.funcs)

  notraces_long : length notraces ≡ words_for p.shape.funcs
  notraces_long = length-map-range_with_len (notrace_store p.user p.copy pair) 0 (words_for p.shape.funcs)

  abbrev named : WordOp
  named = Store (Sel p.user) p.sel

  pub count-stores : length (page_stores p pair) ≡ 2 * words_for p.shape.funcs + 1
  count-stores = how_many filters notraces named ∙ omega (arith, filters_long, notraces_long)

  pub filter_at : (i : ℕ) → i < words_for p.shape.funcs → slice_get (page_stores p pair) i ≡ Some (filter_store p.user p.copy pair i)
  filter_at i h = in_first filters notraces named i (omega (arith, filters_long))
      ∙ numbered (filter_store p.user p.copy pair) (words_for p.shape.funcs) i h

  pub notrace_at : (i w : ℕ) → i ≡ words_for p.shape.funcs + w → w < words_for p.shape.funcs
      → slice_get (page_stores p pair) i ≡ Some (notrace_store p.user p.copy pair w)
  notrace_at i w e h = in_second filters notraces named i w (omega (arith, filters_long)) (omega (arith, notraces_long))
      ∙ numbered (notrace_store p.user p.copy pair) (words_for p.shape.funcs) w h

  pub state_at : (i : ℕ) → i ≡ 2 * words_for p.shape.funcs → slice_get (page_stores p pair) i ≡ Some named
  state_at i e = at_last filters notraces named i (omega (arith, filters_long, notraces_long))

  pub none_after : (i : ℕ) → 2 * words_for p.shape.funcs < i → slice_get (page_stores p pair) i ≡ None
  none_after i h = past_all filters notraces named i (omega (arith, filters_long, notraces_long))

  -- ## the next of them

  pub next_is : (i : ℕ) (o : WordOp) (op : Op) → i ≡ p.stored → slice_get (page_stores p pair) i ≡ Some o → op ≡ placed p.shape o
      → Some op ≡ option_map (placed p.shape) (page_next p pair)
  next_is i o op at is e = ap Some e ∙ sym (ap (option_map (placed p.shape)) (ap (slice_get (page_stores p pair)) (sym at) ∙ is))

  pub none_is_next : 2 * words_for p.shape.funcs < p.stored → None ≡ option_map (placed p.shape) (page_next p pair)
  none_is_next h = sym (ap (option_map (placed p.shape)) (none_after p.stored h))

  -- ## by cases

  -- what holds of each store, and after the last, holds of the store at any place
  pub store_case : (P : Option WordOp → Type 0) (i : ℕ)
      → (i < words_for p.shape.funcs → P (Some (filter_store p.user p.copy pair i)))
      → ((w : ℕ) → i ≡ words_for p.shape.funcs + w → w < words_for p.shape.funcs → P (Some (notrace_store p.user p.copy pair w)))
      → (i ≡ 2 * words_for p.shape.funcs → P (Some named))
      → (2 * words_for p.shape.funcs < i → P None)
      → P (slice_get (page_stores p pair) i)
  store_case P i of_filter of_notrace of_state of_none = elim (cases_lt i (words_for p.shape.funcs)) [
    | inl h ↦ subst P (sym (filter_at i h)) (of_filter h)
    | inr h ↦ elim (cases_lt i (2 * words_for p.shape.funcs)) [
      | inl k ↦ (let e : i ≡ words_for p.shape.funcs + (i - words_for p.shape.funcs) = omega arith in
          let l : i - words_for p.shape.funcs < words_for p.shape.funcs = omega arith in
          subst P (sym (notrace_at i (i - words_for p.shape.funcs) e l)) (of_notrace (i - words_for p.shape.funcs) e l))
      | inr k ↦ elim (cases_eq i (2 * words_for p.shape.funcs)) [
        | inl e ↦ subst P (sym (state_at i e)) (of_state e)
        | inr d ↦ (let m : 2 * words_for p.shape.funcs < i = omega arith in subst P (sym (none_after i m)) (of_none m))
      ]
    ]
  ]

  -- no store is into another copy
  pub copies_apart : (i half w x : ℕ) → p.copy < 2
      → slice_get (page_stores p pair) i ≢ Some (Store (Bits p.user (other_copy p.copy) half w) x)
  copies_apart i half w x small = store_case (λ o. o ≢ Some (Store (Bits p.user (other_copy p.copy) half w) x)) i
      (λ h e. let same : p.copy ≡ other_copy p.copy = cc in omega (arith, same))
      (λ v at h e. let same : p.copy ≡ other_copy p.copy = cc in omega (arith, same))
      (λ h e. cc)
      (λ h e. cc)
