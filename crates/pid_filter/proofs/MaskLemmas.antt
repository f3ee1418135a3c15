-- Masks as sets of tasks: their members, whether there is one, and the bits of the allowed tasks.
use Rattle.std.proofs.Common.{◌≡◌, ◌≢◌, ◌⊎◌, ℕ, zero, suc, ◌-◌, ◌^◌, ◌<◌, ◌≤◌, ◌==◌, ◌||◌, ◌&&◌, not, min, Bool, true, false, [], ◌∷◌, length, bit_and, refl, sym, ap, ap₂, ◌∙◌, inl, inr, arith, w64, ext_get_or}
use Rattle.std.specs.List.{list_any}
use Rattle.std.specs.Int.{bit_at}
use Rattle.std.proofs.lemmas.Bool.{cases_lt}
use Rattle.std.proofs.lemmas.List.{get_or_past}
use Rattle.std.proofs.lemmas.List.Folds.{list_any_at}
use Rattle.std.proofs.lemmas.List.FromFn.{length-map-range_with_len, get_or-map-range_with_len}
use Rattle.std.proofs.lemmas.Nat.Bits.{bit_at-lt, bit_at-zero, bit_at_and, bit_at_not, bit_at_ones, bit_at_ones_above, same_from_bits}
use Rattle.ft_base.specs.Marks.{Marks, holds, empty, is_empty}
use Rattle.ft_base.proofs.Bits.{tests_and_not}
use Rattle.pid_filter.specs.Lists.{tasks_in, allows}

-- ## the empty set

length-empty : (n : ℕ) → length (empty n) ≡ n
length-empty zero = refl
length-empty (suc n) = ap suc (length-empty n)

holds-empty : (n t : ℕ) → holds (empty n) t ≡ false
holds-empty zero t = refl
holds-empty (suc n) zero = refl
holds-empty (suc n) (suc t) = holds-empty n t

-- a set without members passes the test
is_empty-none : (s : Marks) → ((t : ℕ) → holds s t ≡ false) → is_empty s ≡ true
is_empty-none [] h = refl
is_empty-none (true ∷ s) h = let no : true ≡ false = h zero in absurd cc
is_empty-none (false ∷ s) h = is_empty-none s (λ t. h (suc t))

-- ## the members of a mask

pub length-tasks_in : (n m : ℕ) → length (tasks_in n m) ≡ n
length-tasks_in n m = length-map-range_with_len (λ t. bit_at m t == 1) 0 n

pub holds-tasks_in : (n m t : ℕ) → t < n → holds (tasks_in n m) t ≡ (bit_at m t == 1)
holds-tasks_in n m t h = get_or-map-range_with_len (λ (i : ℕ). bit_at m i == 1) 0 n t t false h (omega arith)

pub tasks_in-zero : (n : ℕ) → tasks_in n 0 ≡ empty n
tasks_in-zero n = ext_get_or false _ _ (length-tasks_in n 0 ∙ sym (length-empty n))
    (λ t h. let low : t < n = omega (arith, length-tasks_in n 0) in
    holds-tasks_in n 0 t low ∙ ap (λ b. b == 1) (bit_at-zero t) ∙ sym (holds-empty n t))

-- ## the bits of a mask that are of a task

module _ (n m : ℕ) where
  bit-inside : (t : ℕ) → t < n → bit_at (bit_and m (2 ^ n - 1)) t ≡ bit_at m t
  bit-inside t h = bit_at_and m (2 ^ n - 1) t ∙ omega (arith, bit_at_ones n t h, bit_at-lt m t)

  bit-outside : (t : ℕ) → n ≤ t → bit_at (bit_and m (2 ^ n - 1)) t ≡ 0
  bit-outside t h = bit_at_and m (2 ^ n - 1) t ∙ omega (arith, bit_at_ones_above n t h)

  mark-inside : (t : ℕ) → t < n → holds (tasks_in n m) t ≡ (bit_at (bit_and m (2 ^ n - 1)) t == 1)
  mark-inside t h = holds-tasks_in n m t h ∙ ap (λ b. b == 1) (sym (bit-inside t h))

  -- without such a bit the set is empty
  is_empty-zero : bit_and m (2 ^ n - 1) ≡ 0 → is_empty (tasks_in n m) ≡ true
  is_empty-zero e = is_empty-none (tasks_in n m) (λ t. elim (cases_lt t n) [
    | inl h ↦ mark-inside t h ∙ ap (λ x. bit_at x t == 1) e ∙ ap (λ b. b == 1) (bit_at-zero t)
    | inr h ↦ get_or_past (tasks_in n m) t false (omega (arith, length-tasks_in n m))
  ])

  -- with one it is not
  is_empty-some : bit_and m (2 ^ n - 1) ≢ 0 → is_empty (tasks_in n m) ≡ false
  is_empty-some ne = by (list_any (λ b. b) (tasks_in n m)) refl
    where
      zero_bit : (b : ℕ) → b < 2 → (b == 1) ≡ false → b ≡ 0
      zero_bit zero h e = refl
      zero_bit (suc zero) h e = absurd cc
      zero_bit (suc (suc b)) h e = absurd (omega arith)

      unmarked : list_any (λ b. b) (tasks_in n m) ≡ false → (t : ℕ) → t < n → (b : Bool) → holds (tasks_in n m) t ≡ b → b ≡ false
      unmarked none t h false e = refl
      unmarked none t h true e = let no : list_any (λ b. b) (tasks_in n m) ≡ true =
          list_any_at (λ b. b) (tasks_in n m) t false (omega (arith, length-tasks_in n m)) e in absurd cc

      by : (b : Bool) → list_any (λ b. b) (tasks_in n m) ≡ b → is_empty (tasks_in n m) ≡ false
      by true e = ap not e
      by false e = absurd (ne (same_from_bits _ 0 (λ t. elim (cases_lt t n) [
        | inl h ↦ zero_bit _ (bit_at-lt _ t) (sym (mark-inside t h) ∙ unmarked e t h (holds (tasks_in n m) t) refl) ∙ sym (bit_at-zero t)
        | inr h ↦ bit-outside t h ∙ sym (bit_at-zero t)
      ])))

-- l is the part of the mask m in a, or a itself if there is no bit in it
abbrev pub IsListed : ℕ → ℕ → ℕ → Type 0
IsListed m a l = ((bit_and m a ≡ 0) × (l ≡ a)) ⊎ ((bit_and m a ≢ 0) × (l ≡ bit_and m a))

-- with the bits of all tasks as a, it has the tasks that the pid list lets pass
module _ (n m a l : ℕ) (all : a ≡ 2 ^ n - 1) (listed : IsListed m a l) where
  listed-inside : (t : ℕ) → t < n → (bit_at l t == 1) ≡ (is_empty (tasks_in n m) || holds (tasks_in n m) t)
  listed-inside t h = elim listed [
    | inl x ↦ ap (λ y. bit_at y t == 1) (x.1 ∙ all) ∙ ap (λ b. b == 1) (bit_at_ones n t h)
        ∙ sym (ap (λ b. b || holds (tasks_in n m) t) (is_empty-zero n m (ap (bit_and m) (sym all) ∙ x.0)))
    | inr x ↦ ap (λ y. bit_at y t == 1) (x.1 ∙ ap (bit_and m) all) ∙ sym (mark-inside n m t h)
        ∙ sym (ap (λ b. b || holds (tasks_in n m) t) (is_empty-some n m (λ e. x.0 (ap (bit_and m) all ∙ e))))
  ]

  listed-outside : (t : ℕ) → n ≤ t → bit_at l t ≡ 0
  listed-outside t h = elim listed [
    | inl x ↦ ap (λ y. bit_at y t) (x.1 ∙ all) ∙ bit_at_ones_above n t h
    | inr x ↦ ap (λ y. bit_at y t) (x.1 ∙ ap (bit_and m) all) ∙ bit-outside n m t h
  ]

-- ## less the tasks of the other list

module _ (n m k a l : ℕ) (fits : k < 2 ^ 64) (few : n ≤ 64) (all : a ≡ 2 ^ n - 1) (listed : IsListed m a l) where
  pub bit-allowed : (t : ℕ) → t < n → (bit_at (bit_and l (2 ^ 64 - 1 - k)) t == 1) ≡ allows (record { pids = tasks_in n m; nopids = tasks_in n k }) t
  bit-allowed t h =
      ap (λ b. b == 1) (bit_at_and l (2 ^ 64 - 1 - k) t ∙ ap (min (bit_at l t)) (bit_at_not w64 k t fits (omega arith)))
      ∙ tests_and_not (bit_at l t) (bit_at k t) (bit_at-lt l t) (bit_at-lt k t)
      ∙ ap₂ (λ b d. b && not d) (listed-inside n m a l all listed t h) (sym (holds-tasks_in n k t h))

  pub bit-none : (t : ℕ) → n ≤ t → bit_at (bit_and l (2 ^ 64 - 1 - k)) t ≡ 0
  bit-none t h = bit_at_and l (2 ^ 64 - 1 - k) t ∙ omega (arith, listed-outside n m a l all listed t h)
