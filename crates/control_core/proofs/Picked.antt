-- What an order picks from the lines, if its numbers are among theirs.
use Rattle.std.proofs.Common.{◌≡◌, ℕ, zero, suc, ◌<◌, List, [], ◌∷◌, get_or, length, map, Option, Some, None, refl, sym, ap, ◌∙◌, subst, arith}
use Rattle.std.specs.Prelude.{All, eqb, option_map, slice_get}
use Rattle.std.specs.List.{list_any}
use Rattle.std.proofs.lemmas.Bool.{eq-eqb, or_left, or_right}
use Rattle.std.proofs.lemmas.List.Elements.{All-cons, All-nil}
use Rattle.std.proofs.lemmas.List.Folds.{list_any_at}
use Rattle.std.proofs.lemmas.Option.{get_or_from_slice_get, slice_get-map, slice_get_within}
use Rattle.word_machine_laws.specs.Orders.{IsLed, before_all, picked}

-- these are numbers of n lines
abbrev pub AreBelow : ℕ → List ℕ → Type 0
AreBelow n order = (k : ℕ) → IsLed order k → k < n

below-first : (n k : ℕ) (ks : List ℕ) → AreBelow n (k ∷ ks) → k < n
below-first n k ks h = h k (or_left (eqb k k) (list_any (eqb k) ks) (eq-eqb k k refl))

below-rest : (n k : ℕ) (ks : List ℕ) → AreBelow n (k ∷ ks) → AreBelow n ks
below-rest n k ks h j e = h j (or_right (eqb j k) (list_any (eqb j) ks) e)

-- so is the number at a place
pub below-at : (n : ℕ) (order : List ℕ) (i k : ℕ) → AreBelow n order → slice_get order i ≡ Some k → k < n
below-at n order i k h e =
    h k (list_any_at (eqb k) order i k (slice_get_within order i k e) (eq-eqb k (get_or order i k) (sym (get_or_from_slice_get order i k k e))))

module _ {A : Type 0} where
  found : (xs : List A) (k : ℕ) → k < length xs → (x : A) × (slice_get xs k ≡ Some x)
  found [] k lt = absurd (omega arith)
  found (x ∷ xs) zero lt = (x, refl)
  found (x ∷ xs) (suc k) lt = found xs k (omega arith)

  -- the thing of a number, if there is a number
  abbrev pub at-number : List A → Option ℕ → Option A
  at-number xs None = None
  at-number xs (Some k) = slice_get xs k

  pub picked-at : (xs : List A) (order : List ℕ) → AreBelow (length xs) order → (i : ℕ) → slice_get (picked xs order) i ≡ at-number xs (slice_get order i)
  picked-at xs [] h i = refl
  picked-at xs (k ∷ ks) h zero =
      let f = found xs k (below-first (length xs) k ks h) in
      ap (λ o. slice_get (before_all o (picked xs ks)) 0) f.1 ∙ sym f.1
  picked-at xs (k ∷ ks) h (suc i) =
      let f = found xs k (below-first (length xs) k ks h) in
      ap (λ o. slice_get (before_all o (picked xs ks)) (suc i)) f.1 ∙ picked-at xs ks (below-rest (length xs) k ks h) i

  pub picked-count : (xs : List A) (order : List ℕ) → AreBelow (length xs) order → length (picked xs order) ≡ length order
  picked-count xs [] h = refl
  picked-count xs (k ∷ ks) h =
      let f = found xs k (below-first (length xs) k ks h) in
      ap (λ o. length (before_all o (picked xs ks))) f.1 ∙ ap suc (picked-count xs ks (below-rest (length xs) k ks h))

  pub picked-none : (xs : List A) (order : List ℕ) (i : ℕ) → AreBelow (length xs) order → slice_get order i ≡ None → slice_get (picked xs order) i ≡ None
  picked-none xs order i h e = picked-at xs order h i ∙ ap (at-number xs) e

  pub picked-some : (xs : List A) (order : List ℕ) (i k : ℕ) → AreBelow (length xs) order → slice_get order i ≡ Some k
      → slice_get (picked xs order) i ≡ slice_get xs k
  picked-some xs order i k h e = picked-at xs order h i ∙ ap (at-number xs) e

  before-all : (P : A → Type 0) (o : Option A) (xs : List A) → ((x : A) → o ≡ Some x → P x) → All P xs → All P (before_all o xs)
  before-all P None xs h all = all
  before-all P (Some x) xs h all = All-cons P x xs (h x refl) all

  pub picked-all : (P : A → Type 0) (xs : List A) (order : List ℕ) → All P xs → All P (picked xs order)
  picked-all P xs [] all = All-nil P
  picked-all P xs (k ∷ ks) all =
      before-all P (slice_get xs k) (picked xs ks)
      (λ x e. subst P (get_or_from_slice_get xs k x x e) (all k x (slice_get_within xs k x e)))
      (picked-all P xs ks all)

  -- the thing at a place of an order is one of them
  pub picked-each : (P : A → Type 0) (xs : List A) (order : List ℕ) (i : ℕ) (x : A) → All P xs → slice_get (picked xs order) i ≡ Some x → P x
  picked-each P xs order i x all e =
      subst P (get_or_from_slice_get (picked xs order) i x x e) (picked-all P xs order all i x (slice_get_within (picked xs order) i x e))

module _ {A B : Type 0} (f : A → B) where
  before-map : (o : Option A) (xs : List A) → map f (before_all o xs) ≡ before_all (option_map f o) (map f xs)
  before-map None xs = refl
  before-map (Some x) xs = refl

  pub map-picked : (xs : List A) (order : List ℕ) → map f (picked xs order) ≡ picked (map f xs) order
  map-picked xs [] = refl
  map-picked xs (k ∷ ks) =
      before-map (slice_get xs k) (picked xs ks)
      ∙ ap (before_all (option_map f (slice_get xs k))) (map-picked xs ks)
      ∙ ap (λ o. before_all o (picked (map f xs) ks)) (sym (slice_get-map f xs k))
