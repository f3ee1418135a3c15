-- Whole words against the marks: a word as a number, how many members there are, and whether there is one.
use Rattle.std.proofs.Common.{◌≡◌, ℕ, zero, suc, ◌+◌, ◌*◌, ◌/◌, ◌%◌, ◌^◌, ◌<◌, ◌≤◌, ◌==◌, ◌&&◌, Bool, true, false, List, [], ◌∷◌, length, get_or, take, drop, count_by, count_ones, refl, sym, ap, ap₂, subst, ◌∙◌, inl, inr, arith, length-take, eq-eqb, if◌then◌else◌}
use Rattle.std.specs.List.{list_all}
use Rattle.std.specs.Int.{bit_at}
use Rattle.std.proofs.Math.Seq.{take-add}
use Rattle.std.proofs.lemmas.Bool.{cases_lt, eqb-true}
use Rattle.std.proofs.lemmas.List.{get_or_read, take_all}
use Rattle.std.proofs.lemmas.List.Sums.{sum_by-append, count_by-le-length}
use Rattle.std.proofs.lemmas.Nat.Bits.{bit_at-lt, bit_at-zero, bit_at_above, same_from_bits}
use Rattle.site_set.specs.Packed.{marks_of, IsPacked}
use Rattle.ft_base.specs.Marks.{Marks, holds, is_empty}
use Rattle.site_set.specs.Marks.{word_of, IsEmpty}
use Rattle.site_set.proofs.PackedLemmas.{length-marks_of, holds-marks_of_any}
use Rattle.site_set.proofs.MarksLemmas.{and_first, and_second, bit_at-word_of, bit_at-word_of_above, ones-word_of, IsEmpty-from_is_empty, is_empty-from_IsEmpty}

-- a bit is known from its test
same_bit : (a b : ℕ) → a < 2 → b < 2 → (a == 1) ≡ (b == 1) → a ≡ b
same_bit zero zero h k e = refl
same_bit (suc zero) (suc zero) h k e = refl
same_bit zero (suc zero) h k e = absurd cc
same_bit (suc zero) zero h k e = absurd cc
same_bit zero (suc (suc b)) h k e = absurd (omega arith)
same_bit (suc zero) (suc (suc b)) h k e = absurd (omega arith)
same_bit (suc (suc a)) b h k e = absurd (omega arith)

module _ (size : ℕ) (ws : List ℕ) (p : IsPacked size ws) where
  -- a mark is the bit of its word
  mark_at : (w i : ℕ) → i < 64 → holds (marks_of size ws) (64 * w + i) ≡ (bit_at (get_or ws w 0) i == 1)
  mark_at w i h =
      let q : (64 * w + i) / 64 ≡ w = omega arith in
      let r : (64 * w + i) % 64 ≡ i = omega arith in
      holds-marks_of_any size ws (64 * w + i) p ∙ ap₂ (λ a b. bit_at (get_or ws a 0) b == 1) q r

  pub word_of-marks_of : (w : ℕ) → get_or ws w 0 < 2 ^ 64 → word_of (marks_of size ws) w ≡ get_or ws w 0
  word_of-marks_of w fits = same_from_bits _ _ (λ i. elim (cases_lt i 64) [
    | inl h ↦ same_bit _ _ (bit_at-lt (word_of (marks_of size ws) w) i) (bit_at-lt (get_or ws w 0) i) (bit_at-word_of (marks_of size ws) w i h ∙ mark_at w i h)
    | inr h ↦ bit_at-word_of_above (marks_of size ws) w i h ∙ sym (bit_at_above (get_or ws w 0) 64 i fits h)
  ])

  -- the members below the next word's first number
  pub count_more : (w : ℕ) → get_or ws w 0 < 2 ^ 64
      → count_by (λ b. b) (take (64 * (w + 1)) (marks_of size ws)) ≡ count_by (λ b. b) (take (64 * w) (marks_of size ws)) + count_ones (get_or ws w 0)
  count_more w fits =
      let s = marks_of size ws in
      let e : 64 * (w + 1) ≡ 64 * w + 64 = omega arith in
      ap (λ k. count_by (λ b. b) (take k s)) e ∙ ap (count_by (λ b. b)) (take-add (64 * w) 64 s)
      ∙ sum_by-append (λ b. if b then 1 else 0) (take (64 * w) s) (take 64 (drop (64 * w) s))
      ∙ ap (λ k. count_by (λ b. b) (take (64 * w) s) + k) (sym (ones-word_of s w) ∙ ap count_ones (word_of-marks_of w fits))

  pub count_within : (w : ℕ) → count_by (λ b. b) (take (64 * w) (marks_of size ws)) ≤ size
  count_within w = omega (arith, count_by-le-length (λ (b : Bool). b) (take (64 * w) (marks_of size ws)), length-take (64 * w) (marks_of size ws), length-marks_of size ws)

  pub count_all : (w : ℕ) → length ws ≤ w → count_by (λ b. b) (take (64 * w) (marks_of size ws)) ≡ count_by (λ b. b) (marks_of size ws)
  count_all w h = ap (count_by (λ b. b)) (take_all (64 * w) (marks_of size ws) (omega (arith, length-marks_of size ws, p.count)))

  -- no member if each word is 0
  IsEmpty-zero : list_all (λ word. word == 0) ws ≡ true → IsEmpty (marks_of size ws)
  IsEmpty-zero e f = holds-marks_of_any size ws f p ∙ ap (λ y. bit_at y (f % 64) == 1) (zero_at ws e (f / 64)) ∙ ap (λ b. b == 1) (bit_at-zero (f % 64))
    where
      zero_at : (xs : List ℕ) → list_all (λ word. word == 0) xs ≡ true → (k : ℕ) → get_or xs k 0 ≡ 0
      zero_at [] h k = refl
      zero_at (x ∷ xs) h zero = eqb-true x 0 (and_first (x == 0) _ h)
      zero_at (x ∷ xs) h (suc k) = zero_at xs (and_second (x == 0) _ h) k

  zero-IsEmpty : ((k : ℕ) → get_or ws k 0 < 2 ^ 64) → IsEmpty (marks_of size ws) → list_all (λ word. word == 0) ws ≡ true
  zero-IsEmpty fits h = all_zero ws (λ k. same_from_bits _ _ (λ i. elim (cases_lt i 64) [
    | inl l ↦ same_bit _ _ (bit_at-lt (get_or ws k 0) i) (bit_at-lt 0 i) (sym (mark_at k i l) ∙ h (64 * k + i) ∙ sym (ap (λ b. b == 1) (bit_at-zero i)))
    | inr l ↦ bit_at_above (get_or ws k 0) 64 i (fits k) l ∙ sym (bit_at-zero i)
  ]))
    where
      all_zero : (xs : List ℕ) → ((k : ℕ) → get_or xs k 0 ≡ 0) → list_all (λ word. word == 0) xs ≡ true
      all_zero [] z = refl
      all_zero (x ∷ xs) z = ap₂ (λ a b. a && b) (eq-eqb x 0 (z zero)) (all_zero xs (λ k. z (suc k)))

  pub is_empty-zero : ((k : ℕ) → get_or ws k 0 < 2 ^ 64) → is_empty (marks_of size ws) ≡ list_all (λ word. word == 0) ws
  is_empty-zero fits = same_test _ _ (λ e. zero-IsEmpty fits (IsEmpty-from_is_empty _ e)) (λ e. is_empty-from_IsEmpty _ (IsEmpty-zero e))
    where
      same_test : (a b : Bool) → (a ≡ true → b ≡ true) → (b ≡ true → a ≡ true) → a ≡ b
      same_test true b f g = sym (f refl)
      same_test false true f g = g refl
      same_test false false f g = refl

-- ---- at the slice xs of the words of a set s

pub word_of-read : (size w x : ℕ) (ws : List ℕ) (s : Marks) → IsPacked size ws → marks_of size ws ≡ s → 64 * w < length s → x ≡ get_or ws w x → x < 2 ^ 64
    → x ≡ word_of s w
word_of-read size w x ws s p view low read fits =
    let within : w < length ws = omega (arith, length-marks_of size ws, ap length view, p.count) in
    let same = get_or_read ws w x within read 0 in
    let fit : get_or ws w 0 < 2 ^ 64 = omega (arith, same) in
    same ∙ sym (word_of-marks_of size ws p w fit) ∙ ap (λ m. word_of m w) view

pub is_empty-slice : (size : ℕ) (ws xs : List ℕ) (s : Marks) → IsPacked size ws → marks_of size ws ≡ s → xs ≡ ws
    → ((k : ℕ) → get_or xs k 0 < 2 ^ 64) → list_all (λ word. word == 0) xs ≡ is_empty s
is_empty-slice size ws xs s p view is fits =
    ap (list_all (λ word. word == 0)) is
    ∙ sym (is_empty-zero size ws p (subst (λ (ys : List ℕ). (k : ℕ) → get_or ys k 0 < 2 ^ 64) is fits)) ∙ ap is_empty view

-- how many members there are below the number 64 w
abbrev pub count_below : Marks → ℕ → ℕ
count_below s w = count_by (λ b. b) (take (64 * w) s)

pub count_below_more : (size : ℕ) (ws xs : List ℕ) (s : Marks) → IsPacked size ws → marks_of size ws ≡ s → xs ≡ ws → (w : ℕ) → get_or xs w 0 < 2 ^ 64
    → count_below s w + count_ones (get_or xs w 0) ≡ count_below s (w + 1)
count_below_more size ws xs s p view is w fits =
    let same = ap (λ (ys : List ℕ). get_or ys w 0) is in
    let fit : get_or ws w 0 < 2 ^ 64 = omega (arith, same) in
    ap (λ n. count_below s w + count_ones n) same ∙ ap (λ m. count_below m w + count_ones (get_or ws w 0)) (sym view)
    ∙ sym (count_more size ws p w fit) ∙ ap (λ m. count_below m (w + 1)) view

pub count_below-lt : (size : ℕ) (ws : List ℕ) (s : Marks) → IsPacked size ws → marks_of size ws ≡ s → (w : ℕ) → count_below s w < 2 ^ 32
count_below-lt size ws s p view w = omega (arith, count_within size ws p w, ap (λ m. count_below m w) view, p.small)

pub count_below_all : (size : ℕ) (ws xs : List ℕ) (s : Marks) → IsPacked size ws → marks_of size ws ≡ s → xs ≡ ws → (w : ℕ) → length xs ≤ w
    → count_below s w ≡ count_by (λ b. b) s
count_below_all size ws xs s p view is w h =
    ap (λ m. count_below m w) (sym view) ∙ count_all size ws p w (omega (arith, ap length is)) ∙ ap (count_by (λ b. b)) view
