-- Commands among lines, and what is picked from a list by numbers.
use Rattle.std.proofs.Common.{◌≡◌, ℕ, zero, suc, ◌+◌, ◌<◌, ◌≤◌, List, [], ◌∷◌, ◌++◌, length, slice_get, Some, None, Option, refl, ap, ◌∙◌, arith}
use Rattle.std.specs.List.{range_with_len}
use Rattle.ft_base.specs.Job.{Ctl, Run, Until, commands_in}
use Rattle.word_machine_laws.specs.Orders.{before_all, picked}

-- ## lists

pub get_front : {A : Type 0} (xs ys : List A) (k : ℕ) → k < length xs → slice_get (xs ++ ys) k ≡ slice_get xs k
get_front [] ys k lt = absurd (omega arith)
get_front (x ∷ xs) ys zero lt = refl
get_front (x ∷ xs) ys (suc k) lt = get_front xs ys k (omega arith)

-- what is there has a place
pub get_within : {A : Type 0} (xs : List A) (k : ℕ) (x : A) → slice_get xs k ≡ Some x → k < length xs
get_within [] k x e = absurd (cc)
get_within (y ∷ xs) zero x e = omega arith
get_within (y ∷ xs) (suc k) x e = let i = get_within xs k x e in omega (arith, i)

pub commands_append : (ctls more : List Ctl) → commands_in (ctls ++ more) ≡ commands_in ctls ++ commands_in more
commands_append [] more = refl
commands_append (Run c ∷ rest) more = ap (λ r. c ∷ r) (commands_append rest more)
commands_append (Until t n ∷ rest) more = commands_append rest more

-- ## what is picked

module _ {A : Type 0} where
  before_append : (x : Option A) (ys zs : List A) → before_all x (ys ++ zs) ≡ before_all x ys ++ zs
  before_append None ys zs = refl
  before_append (Some x) ys zs = refl

  pub picked_append : (xs : List A) (ks ls : List ℕ) → picked xs (ks ++ ls) ≡ picked xs ks ++ picked xs ls
  picked_append xs [] ls = refl
  picked_append xs (k ∷ ks) ls = ap (before_all (slice_get xs k)) (picked_append xs ks ls) ∙ before_append (slice_get xs k) (picked xs ks) (picked xs ls)

  before_few : (x : Option A) (ys : List A) → length (before_all x ys) ≤ suc (length ys)
  before_few None ys = omega arith
  before_few (Some x) ys = omega arith

  -- no more than there are numbers
  pub picked_few : (xs : List A) (ks : List ℕ) → length (picked xs ks) ≤ length ks
  picked_few xs [] = omega arith
  picked_few xs (k ∷ ks) = omega (arith, before_few (slice_get xs k) (picked xs ks), picked_few xs ks)

  picked_none : (ks : List ℕ) → picked {A = A} [] ks ≡ []
  picked_none [] = refl
  picked_none (k ∷ ks) = picked_none ks

  -- the first thing is picked by no later number
  picked_later : (x : A) (xs : List A) (n from : ℕ) → picked (x ∷ xs) (range_with_len (suc from) n) ≡ picked xs (range_with_len from n)
  picked_later x xs zero from = refl
  picked_later x xs (suc n) from =
      let e : suc from + 1 ≡ suc (from + 1) = omega arith in
      ap (λ m. before_all (slice_get xs from) (picked (x ∷ xs) (range_with_len m n))) e ∙ ap (before_all (slice_get xs from)) (picked_later x xs n (from + 1))

  -- all numbers in their own order pick the list
  pub picked_all : (xs : List A) (n : ℕ) → length xs ≤ n → picked xs (range_with_len 0 n) ≡ xs
  picked_all [] n le = picked_none (range_with_len 0 n)
  picked_all (x ∷ xs) zero le = absurd (omega arith)
  picked_all (x ∷ xs) (suc n) le = ap (λ r. x ∷ r) (picked_later x xs n 0 ∙ picked_all xs n (omega arith))
