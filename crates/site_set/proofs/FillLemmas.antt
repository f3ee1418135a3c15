-- The words of the set of all numbers below a size.
use Rattle.std.proofs.Common.{Vec, ◌≡◌, ℕ, ◌+◌, ◌-◌, ◌/◌, ◌%◌, ◌^◌, ◌<◌, ◌==◌, true, false, List, length, get_or, set, replicate, nat_lt, sym, ap, subst, ◌∙◌, inl, inr, arith, get_or-set_same, get_or-set_other, ext_get_or}
use Rattle.std.specs.Int.{bit_at}
use Rattle.std.specs.Vec.{with_items}
use Rattle.std.proofs.lemmas.Bool.{cases_eq, cases_lt, lt-ltb, le-ltb}
use Rattle.std.proofs.lemmas.List.{length-replicate, get_or-replicate, with_items_is}
use Rattle.std.proofs.lemmas.Nat.Bits.{bit_at_ones, bit_at_ones_above, ones_shr}
use Rattle.site_set.specs.Packed.{has_bit, marks_of, IsPacked}
use Rattle.ft_base.specs.Marks.{Marks}
use Rattle.site_set.proofs.PackedLemmas.{length-marks_of, holds-marks_of, has_bit_past}

-- n words with every bit set
abbrev pub ones : ℕ → List ℕ
ones n = replicate n (2 ^ 64 - 1)

has_bit-ones : (n f : ℕ) → f / 64 < n → has_bit (ones n) f ≡ true
has_bit-ones n f h = ap (λ y. bit_at y (f % 64) == 1) (get_or-replicate n (f / 64) (2 ^ 64 - 1) 0 h) ∙ ap (λ b. b == 1) (bit_at_ones 64 (f % 64) (omega arith))

module _ (size n : ℕ) (count : n ≡ (size + 63) / 64) where
  -- if the last word is whole
  pub has_bit-whole : size % 64 ≡ 0 → (f : ℕ) → has_bit (ones n) f ≡ nat_lt f size
  has_bit-whole whole f = elim (cases_lt (f / 64) n) [
    | inl h ↦ has_bit-ones n f h ∙ sym (lt-ltb f size (omega arith))
    | inr h ↦ has_bit_past (ones n) f (omega (arith, length-replicate {A = ℕ} n (2 ^ 64 - 1))) ∙ sym (le-ltb f size (omega arith))
  ]

  -- if the last word has bits from the size on, which are cleared
  module _ (part : 0 < size % 64) where
    abbrev pub last : ℕ
    last = (2 ^ 64 - 1) / 2 ^ (64 - size % 64)

    last_is : last ≡ 2 ^ (size % 64) - 1
    last_is = let back : 64 - (64 - size % 64) ≡ size % 64 = omega arith in ones_shr 64 (64 - size % 64) (omega arith) ∙ ap (λ k. 2 ^ k - 1) back

    bit_at-last : (f : ℕ) → f / 64 ≡ size / 64 → (bit_at last (f % 64) == 1) ≡ nat_lt f size
    bit_at-last f e = ap (λ y. bit_at y (f % 64) == 1) last_is ∙ elim (cases_lt (f % 64) (size % 64)) [
      | inl h ↦ ap (λ b. b == 1) (bit_at_ones (size % 64) (f % 64) h) ∙ sym (lt-ltb f size (omega arith))
      | inr h ↦ ap (λ b. b == 1) (bit_at_ones_above (size % 64) (f % 64) h) ∙ sym (le-ltb f size (omega arith))
    ]

    pub has_bit-part : (f : ℕ) → has_bit (set (ones n) (size / 64) last) f ≡ nat_lt f size
    has_bit-part f = elim (cases_eq (f / 64) (size / 64)) [
      | inl e ↦ ap (λ w. bit_at (get_or (set (ones n) (size / 64) last) w 0) (f % 64) == 1) e
          ∙ ap (λ y. bit_at y (f % 64) == 1) (get_or-set_same (ones n) (size / 64) last 0 (omega (arith, length-replicate {A = ℕ} n (2 ^ 64 - 1))))
          ∙ bit_at-last f e
      | inr d ↦ ap (λ y. bit_at y (f % 64) == 1) (get_or-set_other (ones n) (size / 64) (f / 64) last 0 d) ∙ elim (cases_lt (f / 64) n) [
        | inl h ↦ has_bit-ones n f h ∙ sym (lt-ltb f size (omega arith))
        | inr h ↦ has_bit_past (ones n) f (omega (arith, length-replicate {A = ℕ} n (2 ^ 64 - 1))) ∙ sym (le-ltb f size (omega arith))
      ]
    ]

-- ---- at the slice xs of the words of a set s

-- these are the words of the set of all numbers below the size
pub record IsFull (size : ℕ) (s : Marks) (words : List ℕ) : Type 0 where
  pub packed : IsPacked size words
  pub marks : marks_of size words ≡ replicate (length s) true

IsFull-from_bits : (size : ℕ) (ws : List ℕ) (s : Marks) → size < 2 ^ 32 → length ws ≡ (size + 63) / 64 → size ≡ length s
    → ((f : ℕ) → has_bit ws f ≡ nat_lt f size) → IsFull size s ws
IsFull-from_bits size ws s small count long bits = record {
  packed = record {
    small = small;
    count = count;
    clear = λ f h. bits f ∙ le-ltb f size h;
  };
  marks = ext_get_or false _ _ (length-marks_of size ws ∙ long ∙ sym (length-replicate (length s) true))
      (λ i h. let low : i < size = omega (arith, length-marks_of size ws) in
      holds-marks_of size ws i low ∙ bits i ∙ lt-ltb i size low ∙ sym (get_or-replicate (length s) i true false (omega arith)));
}

-- the vector v of the set, written through the slice xs
pub IsFull-from_slice : {Z : Type 0} (v : Vec ℕ Z) (size : ℕ) (xs new : List ℕ) (s : Marks) → IsPacked size v.items → marks_of size v.items ≡ s
    → xs ≡ v.items → length new ≡ length xs → ((f : ℕ) → has_bit new f ≡ nat_lt f size) → IsFull size s (with_items v new).items
IsFull-from_slice v size xs new s p view is same bits =
    let long : length new ≡ v.len = omega (arith, ap length is, v.ok.0) in
    let written : (with_items v new).items ≡ new = with_items_is v new long in
    subst (IsFull size s) (sym written)
    (IsFull-from_bits size new s p.small (same ∙ ap length is ∙ p.count) (sym (length-marks_of size v.items) ∙ ap length view) bits)
