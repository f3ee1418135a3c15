-- A list of stacks after one of them has changed. Each is kept with its top at the end.
use Rattle.std.proofs.Common.{◌≡◌, ℕ, zero, suc, ◌<◌, ◌≤◌, ◌-◌, Bool, true, List, [], ◌∷◌, ◌++◌, Option, Some, None, get_or, length, drop, refl, sym, ap, ◌∙◌, subst, arith}
use Rattle.std.specs.Prelude.{map, set, reverse, slice_get, if◌then◌else◌}
use Rattle.std.specs.Option.{option_to_list}
use Rattle.std.proofs.lemmas.List.{map-set, get_or-map, get_or-reverse, reverse-append, length-map, length-append, length-reverse}
use Rattle.std.proofs.Math.Seq.{set-append_seam}
use Rattle.trace_views.specs.TaskStacks.{with_top}

module _ {A : Type 0} where
  -- the top is put
  pub reverse-push : (xs : List A) (x : A) → reverse (xs ++ x ∷ []) ≡ x ∷ reverse xs
  reverse-push xs x = reverse-append xs (x ∷ [])

  pub reverse-pushed : (xs ys : List A) (x : A) (b : Bool) → b ≡ true → ys ≡ (if b then xs ++ x ∷ [] else xs) → reverse ys ≡ x ∷ reverse xs
  reverse-pushed xs ys x b done e = let f : ys ≡ xs ++ x ∷ [] = rw done at e in ap (λ (zs : List A). reverse zs) f ∙ reverse-push xs x

  -- the top goes
  pub reverse-pop : (xs rest : List A) (last : Option A) → xs ≡ rest ++ option_to_list last → (last ≡ None → length rest ≡ 0) → reverse rest ≡ drop 1 (reverse xs)
  reverse-pop xs rest (Some x) e none = sym (ap (λ (ys : List A). drop 1 (reverse ys)) e ∙ ap (λ (ys : List A). drop 1 ys) (reverse-push rest x))
  reverse-pop xs [] None e none = rw e refl
  reverse-pop xs (y ∷ rest) None e none = let long : length (y ∷ rest) ≡ 0 = none refl in absurd (omega (arith, long))

  -- a list that isn't empty ends with an element
  ends : (y : A) (ys : List A) → (front : List A) × (z : A) × (y ∷ ys ≡ front ++ z ∷ [])
  ends y [] = ([], y, refl)
  ends y (x ∷ xs) = let e = ends x xs in (y ∷ e.0, e.1, ap (λ (l : List A). y ∷ l) e.2)

  seam : (xs front : List A) (z x : A) (n : ℕ) → xs ≡ front ++ z ∷ [] → n ≡ length front → reverse (set xs n x) ≡ with_top x (reverse xs)
  seam xs front z x n e last = rw (e, last, set-append_seam front z [] x, reverse-push front x, reverse-push front z) refl

  -- the top is replaced
  pub reverse-top : (xs : List A) (x : A) (n : ℕ) → n ≡ length xs - 1 → reverse (set xs n x) ≡ with_top x (reverse xs)
  reverse-top [] x n e = refl
  reverse-top (y ∷ ys) x n e =
      let w = ends y ys in
      let long : length (y ∷ ys) ≡ length (w.0 ++ w.1 ∷ []) = ap (λ (l : List A). length l) w.2 in
      seam (y ∷ ys) w.0 w.1 x n w.2 (omega (arith, e, long, length-append w.0 (w.1 ∷ [])))

  pub empty-top : (xs : List A) (x : A) → (0 < length xs → ⊥) → reverse xs ≡ with_top x (reverse xs)
  empty-top [] x e = refl
  empty-top (y ∷ ys) x e = absurd (e (omega arith))

  pub some-at : (ys : List A) (k : ℕ) (y : A) → k < length ys → get_or ys k y ≡ y → slice_get ys k ≡ Some y
  some-at [] k y lt h = absurd (omega (arith, lt))
  some-at (z ∷ ys) zero y lt h = ap (λ (w : A). Some w) h
  some-at (z ∷ ys) (suc k) y lt h = some-at ys k y (omega (arith, lt)) h

  pub none-at : (ys : List A) (k : ℕ) → (k < length ys → ⊥) → slice_get ys k ≡ None
  none-at [] k h = refl
  none-at (z ∷ ys) zero h = absurd (h (omega arith))
  none-at (z ∷ ys) (suc k) h = none-at ys k (λ lt. h (omega (arith, lt)))

  pub item-at : (ys : List A) (k : ℕ) (d : A) → k < length ys → slice_get ys k ≡ Some (get_or ys k d)
  item-at [] k d lt = absurd (omega (arith, lt))
  item-at (z ∷ ys) zero d lt = refl
  item-at (z ∷ ys) (suc k) d lt = item-at ys k d (omega (arith, lt))

  -- which of the elements the first ones of the reversed list are
  pub first-is : (xs : List A) (n : ℕ) (x : A) → n ≡ length xs - 1 → 0 < length xs → x ≡ get_or xs n x → slice_get (reverse xs) 0 ≡ Some x
  first-is xs n x e some here =
      some-at (reverse xs) 0 x (let long = length-reverse xs in omega (arith, long, some))
      (get_or-reverse xs 0 x some ∙ ap (λ m. get_or xs m x) (let f : length xs - 1 - 0 ≡ n = omega (arith, e) in f) ∙ sym here)

  pub second-is : (xs : List A) (n : ℕ) (x : A) → n ≡ length xs - 2 → 2 ≤ length xs → x ≡ get_or xs n x → slice_get (reverse xs) 1 ≡ Some x
  second-is xs n x e some here =
      some-at (reverse xs) 1 x (let long = length-reverse xs in omega (arith, long, some))
      (get_or-reverse xs 1 x (omega (arith, some)) ∙ ap (λ m. get_or xs m x) (let f : length xs - 1 - 1 ≡ n = omega (arith, e, some) in f) ∙ sym here)

module _ {V L : Type 0} (f : V → List L) (tasks : List V) (stacks : List (List L)) (seen : map f tasks ≡ stacks) where
  -- the stack of a task
  pub read : (t : ℕ) (v : V) → t < length stacks → v ≡ get_or tasks t v → f v ≡ get_or stacks t []
  read t v lt here =
      let long : length stacks ≡ length tasks = sym (ap (λ (ls : List (List L)). length ls) seen) ∙ length-map tasks f in
      subst (λ (ls : List (List L)). f v ≡ get_or ls t []) seen (ap f here ∙ sym (get_or-map f tasks t v [] (omega (arith, long, lt))))

  -- the stacks after one of them has changed
  pub changed : (t : ℕ) (v v' : V) (change : List L → List L) → t < length stacks → v ≡ get_or tasks t v → f v' ≡ change (f v) → map f (set tasks t v') ≡ set stacks t (change (get_or stacks t []))
  changed t v v' change lt here e =
      map-set f tasks t v'
      ∙ ap (λ (l : List L). set (map f tasks) t l) (e ∙ ap change (read t v lt here))
      ∙ ap (λ (ls : List (List L)). set ls t (change (get_or stacks t []))) seen
