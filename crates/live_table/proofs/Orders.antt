-- How many commands there are among lines, and among some of them, each at most once.
use Rattle.std.proofs.Common.{cond, ◌≡◌, ℕ, zero, suc, ◌+◌, ◌<◌, ◌≤◌, ◌&&◌, Bool, true, false, List, [], ◌∷◌, length, slice_get, Option, Some, None, inl, inr, refl, sym, ap, ◌∙◌, arith, eqb-true}
use Rattle.std.specs.Prelude.{eqb, ◌||◌}
use Rattle.std.specs.List.{AllByRecursion as Each, IsDistinct, filter, list_any, range_with_len}
use Rattle.std.proofs.lemmas.Bool.{cases_eq, eq-eqb}
use Rattle.std.proofs.lemmas.Cmp.{nat_eq_equiv}
use Rattle.std.proofs.lemmas.Map.Made.{is_member-filter, length-le_from_is_member}
use Rattle.ft_base.specs.Job.{Ctl, Run, Until, commands_in}
use Rattle.ft_base.proofs.Small.{and_both}
use Rattle.word_machine_laws.specs.Orders.{AreLed, before_all, picked}
use Rattle.word_machine_laws.proofs.LedLists.{picked_all}

-- a number is one of those below n
in-range : (n from k : ℕ) → from ≤ k → k < from + n → list_any (eqb k) (range_with_len from n) ≡ true
in-range zero from k low high = absurd (omega (arith, low, high))
in-range (suc n) from k low high = elim (cases_eq k from) [
  | inl e ↦ ap (λ b. b || list_any (eqb k) (range_with_len (from + 1) n)) (eq-eqb k from e)
  | inr ne ↦ or-else (eqb k from) (list_any (eqb k) (range_with_len (from + 1) n)) (in-range n (from + 1) k (omega (arith, low, ne)) (omega (arith, high)))
]
  where
    or-else : (a b : Bool) → b ≡ true → (a || b) ≡ true
    or-else true b e = refl
    or-else false b e = e

-- some of a list are as all of it are
one-kept : (P : ℕ → Type 0) (b : Bool) (x : ℕ) (xs : List ℕ) → P x → Each P xs → Each P (cond b (x ∷ xs) xs)
one-kept P true x xs first rest = (first, rest)
one-kept P false x xs first rest = rest

all-kept : (P : ℕ → Type 0) (p : ℕ → Bool) (xs : List ℕ) → Each P xs → Each P (filter p xs)
all-kept P p [] h = tt
all-kept P p (x ∷ xs) h = one-kept P (p x) x (filter p xs) h.0 (all-kept P p xs h.1)

one-distinct : (b : Bool) (x : ℕ) (xs : List ℕ) → Each (λ y. eqb x y ≡ false) xs → IsDistinct eqb xs → IsDistinct eqb (cond b (x ∷ xs) xs)
unfolding IsDistinct
one-distinct true x xs apart rest = (apart, rest)
one-distinct false x xs apart rest = rest

all-distinct : (p : ℕ → Bool) (xs : List ℕ) → IsDistinct eqb xs → IsDistinct eqb (filter p xs)
unfolding IsDistinct
all-distinct p [] h = tt
all-distinct p (x ∷ xs) h = one-distinct (p x) x (filter p xs) (all-kept (λ y. eqb x y ≡ false) p xs h.0) (all-distinct p xs h.1)

-- the line is a command
abbrev is_run : Option Ctl → Bool
is_run None = false
is_run (Some (Run c)) = true
is_run (Some (Until t n)) = false

module _ (ctls : List Ctl) where
  abbrev runs : ℕ → Bool
  runs k = is_run (slice_get ctls k)

  counted-one : (o : Option Ctl) (xs : List Ctl) (ks : List ℕ) (k : ℕ) → length (commands_in xs) ≡ length ks
      → length (commands_in (before_all o xs)) ≡ length (cond (is_run o) (k ∷ ks) ks)
  counted-one None xs ks k e = e
  counted-one (Some (Run c)) xs ks k e = ap suc e
  counted-one (Some (Until t n)) xs ks k e = e

  -- the commands of lines that are picked are as many as the numbers of commands
  counted : (order : List ℕ) → length (commands_in (picked ctls order)) ≡ length (filter runs order)
  counted [] = refl
  counted (k ∷ ks) = counted-one (slice_get ctls k) (picked ctls ks) (filter runs ks) k (counted ks)

  kept : (ks : List ℕ) (k : ℕ) → list_any (eqb k) (filter runs ks) ≡ (list_any (eqb k) ks && runs k)
  kept ks k = is_member-filter nat_eq_equiv runs k (λ x e. ap runs (eqb-true k x e)) ks

  -- so they are no more than the commands of all lines
  pub commands-picked : (order : List ℕ) → AreLed (length ctls) order → length (commands_in (picked ctls order)) ≤ length (commands_in ctls)
  commands-picked order led =
      let all : List ℕ = range_with_len 0 (length ctls) in
      let few = length-le_from_is_member nat_eq_equiv (filter runs order) (filter runs all) (all-distinct runs order led.once)
      (λ k m.
      let h = and_both (list_any (eqb k) order) (runs k) (sym (kept order k) ∙ m) in
      let lt = led.within k h.0 in
      let there : list_any (eqb k) all ≡ true = in-range (length ctls) 0 k (omega arith) (omega (arith, lt)) in
      kept all k ∙ (λ i. there i && h.1 i)) in
      let some = counted order in
      let whole = counted all in
      let same = ap (λ (l : List Ctl). length (commands_in l)) (picked_all ctls (length ctls) (omega arith)) in
      omega (arith, few, some, whole, same)
