-- Small facts on tests and lists that many proofs use.
use Rattle.std.proofs.Common.{cond, ◌≡◌, ◌<◌, ◌≤◌, ℕ, zero, suc, ◌⊎◌, Bool, true, false, not, ◌&&◌, ◌||◌, ◌==◌, nat_lt, List, [], ◌∷◌, ◌++◌, get_or, map, length, slice_get, Some, Result, Ok, Err, OnErr, refl, sym, ap, subst, arith, rules, inl, inr, ltb-true, ltb-false}
use Rattle.std.proofs.lemmas.Bool.Decides.{eqb_tells}
use Rattle.std.specs.Prelude.{Contains}
use Rattle.std.specs.List.{filter, AllByRecursion as Each}

pub false_true : {A : Type 0} → false ≡ true → A
false_true e = absurd cc

-- what holds whatever comes of a call holds after an error
pub on-err : {T E : Type 0} (r : Result T E) (P : Type 0) → P → OnErr r P
on-err (Ok x) P p = tt
on-err (Err y) P p = p

pub and_both : (a b : Bool) → (a && b) ≡ true → (a ≡ true) × (b ≡ true)
and_both true b e = (refl, e)
and_both false b e = false_true e

-- on a number itself
pub ==-refl : (n : ℕ) → (n == n) ≡ true
==-refl n = search rules

pub Each-weaker : {X : Type 0} (P Q : X → Type 0) (xs : List X) → ((x : X) → P x → Q x) → Each P xs → Each Q xs
Each-weaker P Q [] f h = tt
Each-weaker P Q (x ∷ xs) f h = (f x h.0, Each-weaker P Q xs f h.1)

-- what holds of all that there may be holds of each
pub each-all : {X : Type 0} (P : X → Type 0) (xs : List X) → ((x : X) → P x) → Each P xs
each-all P [] f = tt
each-all P (x ∷ xs) f = (f x, each-all P xs f)

pub Each-snoc : {X : Type 0} (P : X → Type 0) (xs : List X) (y : X) → Each P xs → P y → Each P (xs ++ y ∷ [])
Each-snoc P [] y h p = (p, tt)
Each-snoc P (x ∷ xs) y h p = (h.0, Each-snoc P xs y h.1 p)

pub Each-filter : {X : Type 0} (P : X → Type 0) (p : X → Bool) (xs : List X) → Each P xs → Each P (filter p xs)
Each-filter P p [] h = tt
Each-filter P p (x ∷ xs) h = elim (p x) as (λ b. Each P (cond b (x ∷ filter p xs) (filter p xs))) [ true ↦ (h.0, Each-filter P p xs h.1) | false ↦ Each-filter P p xs h.1 ]

-- tests that say the same of each element pick the same, and give the same
pub filter-ext : {X : Type 0} (p q : X → Bool) (xs : List X) → Each (λ x. p x ≡ q x) xs → filter p xs ≡ filter q xs
filter-ext p q [] h = refl
filter-ext p q (x ∷ xs) h = rw h.0 (ap (λ ys. cond (q x) (x ∷ ys) ys) (filter-ext p q xs h.1))

pub map-ext : {A B : Type 0} (f g : A → B) (xs : List A) → Each (λ x. f x ≡ g x) xs → map f xs ≡ map g xs
map-ext f g [] h = refl
map-ext f g (x ∷ xs) h = rw h.0 (ap (λ ys. g x ∷ ys) (map-ext f g xs h.1))

pub filter-all : {X : Type 0} (p : X → Bool) (xs : List X) → Each (λ x. p x ≡ true) xs → filter p xs ≡ xs
filter-all p [] h = refl
filter-all p (x ∷ xs) h = rw h.0 (ap (λ ys. x ∷ ys) (filter-all p xs h.1))

-- what holds of each, and of what stands for a number that isn't there, holds at each number
pub each-get : {A : Type 0} (P : A → Type 0) (xs : List A) (i : ℕ) (d : A) → P d → Each P xs → P (get_or xs i d)
each-get P [] i d h e = h
each-get P (x ∷ xs) zero d h e = e.0
each-get P (x ∷ xs) (suc i) d h e = each-get P xs i d h e.1

-- what holds of each element at its place, and of one that is put after them, holds of each
pub each-pushed : {A : Type 0} (P : ℕ → A → Type 0) (xs : List A) (x : A) → ((k : ℕ) (y : A) → slice_get xs k ≡ Some y → P k y) → P (length xs) x
    → (k : ℕ) (y : A) → slice_get (xs ++ x ∷ []) k ≡ Some y → P k y
each-pushed P [] x all here zero y e = let same : x ≡ y = cc in subst (P 0) same here
each-pushed P [] x all here (suc k) y e = absurd cc
each-pushed P (z ∷ zs) x all here zero y e = all zero y e
each-pushed P (z ∷ zs) x all here (suc k) y e = each-pushed (λ n. P (suc n)) zs x (λ n. all (suc n)) here k y e

pub Contains-head : {X : Type 0} (x : X) (xs : List X) → Contains (x ∷ xs) x
Contains-head x xs = (0, omega arith, refl)

pub Contains-more : {X : Type 0} (y x : X) (xs : List X) → Contains xs x → Contains (y ∷ xs) x
Contains-more y x xs c = (suc c.0, (let l = c.1 in omega arith), c.2)

-- tests of which each passes if the other does are the same
pub same_test : (a b : Bool) → (a ≡ true → b ≡ true) → (b ≡ true → a ≡ true) → a ≡ b
same_test true b f g = sym (f refl)
same_test false true f g = g refl
same_test false false f g = refl

pub or-false_both : (a b : Bool) → (a || b) ≡ false → (a ≡ false) × (b ≡ false)
or-false_both true b e = false_true (sym e)
or-false_both false b e = (refl, e)

pub and-false : (b : Bool) → (b && false) ≡ false
and-false true = refl
and-false false = refl

pub or-true : (b : Bool) → (b || true) ≡ true
or-true true = refl
or-true false = refl

pub or-true_either : (a b : Bool) → (a || b) ≡ true → (a ≡ true) ⊎ (b ≡ true)
or-true_either true b e = inl refl
or-true_either false b e = inr e

-- what is at most its limit has reached it if it is not below
pub full : (level frames : ℕ) → level ≤ frames → (level == frames) ≡ not (nat_lt level frames)
full level frames le =
    elim (nat_lt level frames) as (λ b. nat_lt level frames ≡ b → (level == frames) ≡ not b) [
      | true ↦ λ e. let lt : level < frames = ltb-true level frames e in
          elim (eqb_tells level frames) [ inl x ↦ (let y : level ≡ frames = x.1 in absurd (omega arith)) | inr x ↦ x.0 ]
      | false ↦ λ e. let ge : frames ≤ level = ltb-false level frames e in
          elim (eqb_tells level frames) [ inl x ↦ x.0 | inr x ↦ absurd (x.1 (omega arith)) ]
    ] refl
