-- What a write to one word does to the marks.
use Rattle.std.proofs.Common.{◌≡◌, ◌≢◌, ℕ, ◌+◌, ◌*◌, ◌/◌, ◌%◌, ◌<◌, ◌≤◌, ◌==◌, Bool, true, false, List, length, get_or, set, sym, ap, ◌∙◌, inl, inr, arith, replicate, ◌-◌, ◌^◌, bit_or, bit_and, w64, length-set, get_or-set_same, get_or-set_other, ext_get_or}
use Rattle.std.specs.Int.{bit_at}
use Rattle.std.proofs.lemmas.Bool.{cases_eq, cases_lt}
use Rattle.std.proofs.lemmas.List.{length-replicate, get_or_read, get_or_past, get_or-replicate}
use Rattle.std.proofs.lemmas.Nat.Bits.{bit_at_set_same, bit_at_set_other, bit_at_clear_same, bit_at_clear_other, bit_at-zero, shr_and_one}
use Rattle.std.proofs.lemmas.List.FromFn.{length-map-range_with_len, get_or-map-range_with_len}
use Rattle.ft_base.specs.Marks.{empty}
use Rattle.ft_base.proofs.Bits.{past_test}
use Rattle.site_set.proofs.MarksLemmas.{length-empty, holds-empty}
use Rattle.site_set.specs.Packed.{has_bit, marks_of, IsPacked}

pub length-marks_of : (size : ℕ) (ws : List ℕ) → length (marks_of size ws) ≡ size
length-marks_of size ws = length-map-range_with_len (has_bit ws) 0 size

pub holds-marks_of : (size : ℕ) (ws : List ℕ) (f : ℕ) → f < size → get_or (marks_of size ws) f false ≡ has_bit ws f
holds-marks_of size ws f h = get_or-map-range_with_len (has_bit ws) 0 size f f false h (omega arith)

-- the same at any number, since no bit is set from the size on
pub holds-marks_of_any : (size : ℕ) (ws : List ℕ) (f : ℕ) → IsPacked size ws → get_or (marks_of size ws) f false ≡ has_bit ws f
holds-marks_of_any size ws f p = elim (cases_lt f size) [
  | inl h ↦ holds-marks_of size ws f h
  | inr h ↦ get_or_past (marks_of size ws) f false (omega (arith, length-marks_of size ws)) ∙ sym (p.clear f h)
]

-- the word of a number below the size is there
pub word_within : (size f n : ℕ) → n ≡ (size + 63) / 64 → f < size → f / 64 < n
word_within size f n e h = omega arith

-- no bit is set past the last word
pub has_bit_past : (ws : List ℕ) (f : ℕ) → length ws ≤ f / 64 → has_bit ws f ≡ false
has_bit_past ws f h = past_test ws (f / 64) (f % 64) h

pub has_bit-set_same : (ws : List ℕ) (f x : ℕ) → f / 64 < length ws → has_bit (set ws (f / 64) x) f ≡ (bit_at x (f % 64) == 1)
has_bit-set_same ws f x h = ap (λ y. bit_at y (f % 64) == 1) (get_or-set_same ws (f / 64) x 0 h)

same_place : (f i : ℕ) → i / 64 ≡ f / 64 → i % 64 ≡ f % 64 → i ≡ f
same_place f i p q = omega arith

module _ (ws : List ℕ) (f x : ℕ) (within : f / 64 < length ws)
    (others : (k : ℕ) → k < 64 → k ≢ f % 64 → bit_at x k ≡ bit_at (get_or ws (f / 64) 0) k) where
  pub has_bit-set_other : (i : ℕ) → i ≢ f → has_bit (set ws (f / 64) x) i ≡ has_bit ws i
  has_bit-set_other i ne = elim (cases_eq (i / 64) (f / 64)) [
    | inl e ↦ (let k : i % 64 < 64 = omega arith in
        let apart : i % 64 ≢ f % 64 = λ q. ne (same_place f i e q) in
        ap (λ w. bit_at (get_or (set ws (f / 64) x) w 0) (i % 64) == 1) e
        ∙ ap (λ y. bit_at y (i % 64) == 1) (get_or-set_same ws (f / 64) x 0 within)
        ∙ ap (λ b. b == 1) (others (i % 64) k apart)
        ∙ ap (λ w. bit_at (get_or ws w 0) (i % 64) == 1) (sym e))
    | inr d ↦ ap (λ y. bit_at y (i % 64) == 1) (get_or-set_other ws (f / 64) (i / 64) x 0 d)
  ]

  pub marks_of-set : (size : ℕ) (b : Bool) → f < size → (bit_at x (f % 64) == 1) ≡ b
      → marks_of size (set ws (f / 64) x) ≡ set (marks_of size ws) f b
  marks_of-set size b below mark =
      let old = marks_of size ws in
      let here : f < length old = omega (arith, length-marks_of size ws) in
      ext_get_or false _ _ (length-marks_of size _ ∙ sym (length-set old f b ∙ length-marks_of size ws))
      (λ i h. let low : i < size = omega (arith, length-marks_of size (set ws (f / 64) x)) in
      holds-marks_of size _ i low ∙ elim (cases_eq i f) [
        | inl e ↦ ap (has_bit (set ws (f / 64) x)) e ∙ has_bit-set_same ws f x within ∙ mark
            ∙ sym (get_or-set_same old f b false here) ∙ ap (λ j. get_or (set old f b) j false) (sym e)
        | inr d ↦ has_bit-set_other i d ∙ sym (holds-marks_of size ws i low) ∙ sym (get_or-set_other old f i b false d)
      ])

  pub IsPacked-set : (size : ℕ) → f < size → IsPacked size ws → IsPacked size (set ws (f / 64) x)
  IsPacked-set size below p = record {
    small = p.small;
    count = length-set ws (f / 64) x ∙ p.count;
    clear = λ i h. let apart : i ≢ f = omega arith in has_bit-set_other i apart ∙ p.clear i h;
  }

-- the words after `|= 1 << k` and `&= !(1 << k)` on the word of f, which was y
module _ (size f : ℕ) (ws : List ℕ) (y : ℕ) (packed : IsPacked size ws) (below : f < size) (read : y ≡ get_or ws (f / 64) y) where
  within : f / 64 < length ws
  within = word_within size f (length ws) packed.count below

  bit_in : f % 64 < 64
  bit_in = omega arith

  was : y ≡ get_or ws (f / 64) 0
  was = get_or_read ws (f / 64) y within read 0

  abbrev pub added : ℕ
  added = bit_or y (1 * 2 ^ (f % 64) % 2 ^ 64)

  abbrev pub removed : ℕ
  removed = bit_and y (2 ^ 64 - 1 - 1 * 2 ^ (f % 64) % 2 ^ 64)

  added_others : (k : ℕ) → k < 64 → k ≢ f % 64 → bit_at added k ≡ bit_at (get_or ws (f / 64) 0) k
  added_others k h ne = bit_at_set_other w64 y (f % 64) bit_in k ne ∙ ap (λ z. bit_at z k) was

  removed_others : (k : ℕ) → k < 64 → k ≢ f % 64 → bit_at removed k ≡ bit_at (get_or ws (f / 64) 0) k
  removed_others k h ne = bit_at_clear_other w64 y (f % 64) bit_in k h ne ∙ ap (λ z. bit_at z k) was

  pub IsPacked-added : IsPacked size (set ws (f / 64) added)
  IsPacked-added = IsPacked-set ws f added within added_others size below packed

  pub marks_of-added : marks_of size (set ws (f / 64) added) ≡ set (marks_of size ws) f true
  marks_of-added = marks_of-set ws f added within added_others size true below (ap (λ b. b == 1) (bit_at_set_same w64 y (f % 64) bit_in))

  pub IsPacked-removed : IsPacked size (set ws (f / 64) removed)
  IsPacked-removed = IsPacked-set ws f removed within removed_others size below packed

  pub marks_of-removed : marks_of size (set ws (f / 64) removed) ≡ set (marks_of size ws) f false
  marks_of-removed = marks_of-set ws f removed within removed_others size false below (ap (λ b. b == 1) (bit_at_clear_same w64 y (f % 64) bit_in))

  pub holds-read : (bit_and (y / 2 ^ (f % 64)) 1 == 1) ≡ get_or (marks_of size ws) f false
  holds-read = ap (λ b. b == 1) (shr_and_one y (f % 64) ∙ ap (λ z. bit_at z (f % 64)) was) ∙ sym (holds-marks_of size ws f below)

-- no bit of zeros is set
bit_of_zeros : (n w k : ℕ) → (bit_at (get_or (replicate n 0) w 0) k == 1) ≡ false
bit_of_zeros n w k = elim (cases_lt w n) [
  | inl h ↦ ap (λ y. bit_at y k == 1) (get_or-replicate n w 0 0 h) ∙ ap (λ b. b == 1) (bit_at-zero k)
  | inr h ↦ past_test (replicate n 0) w k (omega (arith, length-replicate {A = ℕ} n 0))
]

pub IsPacked-zeros : (size n : ℕ) → size < 2 ^ 32 → n ≡ (size + 63) / 64 → IsPacked size (replicate n 0)
IsPacked-zeros size n fits e = record {
  small = fits;
  count = length-replicate n 0 ∙ e;
  clear = λ f h. bit_of_zeros n (f / 64) (f % 64);
}

pub marks_of-zeros : (size n : ℕ) → marks_of size (replicate n 0) ≡ empty size
marks_of-zeros size n = ext_get_or false _ _ (length-marks_of size _ ∙ sym (length-empty size))
    (λ i h. let low : i < size = omega (arith, length-marks_of size (replicate n 0)) in
    holds-marks_of size _ i low ∙ bit_of_zeros n (i / 64) (i % 64) ∙ sym (holds-empty size i))
