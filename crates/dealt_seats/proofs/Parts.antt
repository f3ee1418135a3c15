-- Lists of views and of parts, while views are set and added.
use Rattle.std.proofs.Common.{◌≡◌, ◌≢◌, ℕ, zero, suc, ◌<◌, List, [], ◌∷◌, ◌++◌, length, set, slice_get, Some, inl, inr, ⊎_elim, refl, sym, ap, ◌∙◌, subst, arith}
use Rattle.std.proofs.lemmas.Bool.{cases_eq}
use Rattle.std.proofs.lemmas.Option.{same_Some}
use mathlib.Core.Option.{some, some-ne-none, some-injective}
use lib.ListN.{get_elem?}
use Rattle.atomic_table.proofs.Lists.{at_last, at_longer, at_set, set_else}
use Rattle.ft_base.specs.declared.turn.Actor.{Actor}
use Rattle.dealt_seats.specs.declared.view.Part.{Part}
use Rattle.dealt_seats.specs.declared.view.View.{View}
use Rattle.dealt_seats.specs.Covers.{Fits, HasPart, StandsIn}
use Rattle.dealt_seats.specs.Views.{cpu, cpu_view, joined, part, parts_of, view}

-- ## lists

-- what is said of the only one is said of each
pub only-one : {A : Type 0} (P : ℕ → A → Type 0) (x : A) → P 0 x → (k : ℕ) (y : A) → get_elem? (x ∷ []) k ≡ some y → P k y
only-one P x here zero y e = subst (P 0) (some-injective x y e) here
only-one P x here (suc k) y e = absurd (some-ne-none y (sym e))

-- what is said of each element is said of one that is added, and of each after one is set
pub each-added : {A : Type 0} (P : ℕ → A → Type 0) (l : List A) (a : A) → ((j : ℕ) (x : A) → get_elem? l j ≡ some x → P j x) → P (length l) a
    → (j : ℕ) (x : A) → get_elem? (l ++ a ∷ []) j ≡ some x → P j x
each-added P [] a old here j x e = only-one P a here j x e
each-added P (y ∷ ys) a old here zero x e = old zero x e
each-added P (y ∷ ys) a old here (suc j) x e = each-added (λ i z. P (suc i) z) ys a (λ i z f. old (suc i) z f) here j x e

pub each-set : {A : Type 0} (P : ℕ → A → Type 0) (l : List A) (i : ℕ) (a : A) → ((j : ℕ) (x : A) → j ≢ i → get_elem? l j ≡ some x → P j x) → P i a
    → (j : ℕ) (x : A) → get_elem? (set l i a) j ≡ some x → P j x
each-set {A} P l i a others here j x e =
    ⊎_elim
    (λ (t : (j ≡ i) × (a ≡ x)). subst (λ (u : ℕ × A). P u.0 u.1) (λ k. (sym t.0 k, t.1 k)) here)
    (λ (t : (j ≢ i) × (get_elem? l j ≡ some x)). others j x t.0 t.1)
    (at_set l i j a x e)

pub put-here : {A : Type 0} (l : List A) (i : ℕ) (a b : A) → get_elem? l i ≡ some a → get_elem? (set l i b) i ≡ some b
put-here [] i a b e = absurd (some-ne-none a (sym e))
put-here (x ∷ xs) zero a b e = refl
put-here (x ∷ xs) (suc i) a b e = put-here xs i a b e

pub get-middle : {A : Type 0} (xs : List A) (y : A) (zs : List A) → slice_get (xs ++ y ∷ zs) (length xs) ≡ Some y
get-middle [] y zs = refl
get-middle (x ∷ xs) y zs = get-middle xs y zs

-- there is a seat at each place below the length
pub seat-at : {A : Type 0} (xs : List A) (c : ℕ) → c < length xs → (x : A) × (slice_get xs c ≡ Some x)
seat-at [] c lt = absurd (omega (arith, lt))
seat-at (x ∷ xs) zero lt = (x, refl)
seat-at (x ∷ xs) (suc c) lt = seat-at xs c (omega (arith, lt))

-- ## what seats know

module _ {A K : Type 0} (number : A → ℕ) (known : A → K) where
  pub parts-at : (ss : List A) (c : ℕ) (s : A) → slice_get ss c ≡ Some s → get_elem? (parts_of number known ss) c ≡ some (part (cpu (number s)) (known s))
  parts-at [] c s e = absurd (cc)
  parts-at (x ∷ xs) zero s e = ap (λ u. some (part (cpu (number u)) (known u))) (same_Some x s e)
  parts-at (x ∷ xs) (suc c) s e = parts-at xs c s e

  parts-more : (ss : List A) (s : A) → parts_of number known (ss ++ s ∷ []) ≡ parts_of number known ss ++ part (cpu (number s)) (known s) ∷ []
  parts-more [] s = refl
  parts-more (x ∷ xs) s = ap (λ (l : List (Part K)). part (cpu (number x)) (known x) ∷ l) (parts-more xs s)

  -- what a seat knows after one more has joined it
  pub joined-more : {J L : Type 0} (v w : View J L K) (job : J) (led : L) (split : ℕ) (x0 : Part K) (ss : List A) (q : J) (whole : L) (c : ℕ) (k : K) (s : A)
      → v ≡ view job led split (x0 ∷ parts_of number known ss) → w ≡ cpu_view q whole c k → part (cpu c) k ≡ part (cpu (number s)) (known s)
      → joined v w ≡ view job led split (x0 ∷ parts_of number known (ss ++ s ∷ []))
  joined-more v w job led split x0 ss q whole c k s is other same =
      (λ i. joined (is i) (other i))
      ∙ ap (λ p. view job led split (x0 ∷ parts_of number known ss ++ p ∷ [])) same
      ∙ ap (λ l. view job led split (x0 ∷ l)) (sym (parts-more ss s))

-- ## parts that fit

-- each part of a view fits
abbrev pub PartsFit : {J L K : Type 0} → J → L → (Actor → K) → (Actor → ℕ) → ℕ → ℕ → View J L K → Type 0
PartsFit {J} {L} {K} job led knows seat split id v = (k : ℕ) (x : Part K) → get_elem? v.parts k ≡ some x → Fits job led knows seat split id v x

-- ## where actors stand

module _ {J L K : Type 0} where
  -- a seat has another view, which has all actors of its old one
  pub stands-set : (views : List (View J L K)) (id n : ℕ) (w : View J L K) (a : Actor) → StandsIn views n a
      → ((v : View J L K) → get_elem? views id ≡ some v → HasPart v a → HasPart w a) → StandsIn (set views id w) n a
  stands-set views id n w a s keeps = elim (cases_eq n id) [
    | inl e ↦
        let at : get_elem? views id ≡ some s.0 = ap (λ j. get_elem? views j) (sym e) ∙ s.1 in
        subst (λ j. StandsIn (set views id w) j a) (sym e) (w, put-here views id s.0 w at, keeps s.0 at s.2)
    | inr ne ↦ (s.0, set_else views id n w ne ∙ s.1, s.2)
  ]

  -- there is one view more
  pub stands-longer : (views more : List (View J L K)) (n : ℕ) (a : Actor) → StandsIn views n a → StandsIn (views ++ more) n a
  stands-longer views more n a s = (s.0, at_longer views more n s.0 s.1, s.2)

  pub stands-last : (views : List (View J L K)) (w : View J L K) (a : Actor) → HasPart w a → StandsIn (views ++ w ∷ []) (length views) a
  stands-last views w a has = (w, at_last views w (length views) refl, has)

  -- of the view that is known to stand there the only part is the actor's
  pub only-there : (job : J) (led : L) (here : ℕ) (p : Part K) (views : List (View J L K)) (id : ℕ) → get_elem? views id ≡ some (view job led here (p ∷ []))
      → (a : Actor) (v : View J L K) → get_elem? views id ≡ some v → HasPart v a → p.actor ≡ a
  only-there job led here p views id at a v e has =
      let is : v ≡ view job led here (p ∷ []) = some-injective v (view job led here (p ∷ [])) (sym e ∙ at) in
      let h : HasPart (view job led here (p ∷ [])) a = subst (λ (u : View J L K). HasPart u a) is has in
      only-one (λ k x. x.actor ≡ a → p.actor ≡ a) p (λ same. same) h.0 h.1 h.2 h.3
