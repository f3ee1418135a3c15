-- Two sets word by word, against their marks.
use Rattle.std.proofs.Common.{Vec, ◌≡◌, ℕ, ◌+◌, ◌-◌, ◌*◌, ◌/◌, ◌%◌, ◌^◌, ◌<◌, ◌≤◌, ◌==◌, ◌&&◌, ◌||◌, not, min, Bool, true, false, List, length, get_or, map, bit_or, bit_and, w64, refl, sym, ap, ap₂, subst, ◌∙◌, inl, inr, arith, ext_get_or}
use Rattle.std.specs.List.{zip}
use Rattle.std.specs.Vec.{with_items}
use Rattle.std.proofs.lemmas.List.{with_items_is}
use Rattle.std.specs.Int.{bit_at}
use Rattle.std.proofs.lemmas.Bool.{cases_lt}
use Rattle.std.proofs.lemmas.List.{get_or_read, get_or-map, length-map}
use Rattle.std.proofs.lemmas.Slice.Zip.{length-zip, get_or-zip}
use Rattle.std.proofs.lemmas.Nat.Bits.{bit_at-lt, bit_at-zero, bit_at_and, bit_at_not}
use Rattle.ft_base.proofs.Bits.{or_test, and_test, tests_and_not}
use Rattle.site_set.specs.Packed.{has_bit, marks_of, IsPacked, IsLowestBit}
use Rattle.ft_base.specs.Marks.{Marks, holds, union, difference}
use Rattle.site_set.specs.Marks.{AreDisjoint, IsLeastCommon}
use Rattle.site_set.proofs.PackedLemmas.{length-marks_of, holds-marks_of, holds-marks_of_any, has_bit_past, word_within}
use Rattle.site_set.proofs.MarksLemmas.{and_first, and_second, length-union, holds-union, length-difference, holds-difference}

-- ---- a bit of `|` and of `& !`

pub bit_or_test : (a b k : ℕ) → b < 2 ^ 64 → k < 64 → (bit_at (bit_or a b) k == 1) ≡ ((bit_at a k == 1) || (bit_at b k == 1))
bit_or_test a b k fits h = or_test a b k

pub and_not_test : (a b k : ℕ) → b < 2 ^ 64 → k < 64 → (bit_at (bit_and a (2 ^ 64 - 1 - b)) k == 1) ≡ ((bit_at a k == 1) && not (bit_at b k == 1))
and_not_test a b k fits h = ap (λ n. n == 1) (bit_at_and a (2 ^ 64 - 1 - b) k ∙ ap (min (bit_at a k)) (bit_at_not w64 b k fits h)) ∙ tests_and_not _ _ (bit_at-lt a k) (bit_at-lt b k)

-- ---- two sets of one size

pub same_size : (n m : ℕ) (ws vs : List ℕ) (s t : Marks) → marks_of n ws ≡ s → marks_of m vs ≡ t → length s ≡ length t → n ≡ m
same_size n m ws vs s t e f h = sym (length-marks_of n ws) ∙ ap length e ∙ h ∙ sym (ap length f) ∙ length-marks_of m vs

pub same_count : (n m : ℕ) (ws vs : List ℕ) → n ≡ m → IsPacked n ws → IsPacked m vs → length ws ≡ length vs
same_count n m ws vs e p q = p.count ∙ ap (λ k. (k + 63) / 64) e ∙ sym q.count

pub same_words : (n m : ℕ) (ws vs : List ℕ) (s t : Marks) → marks_of n ws ≡ s → marks_of m vs ≡ t → length s ≡ length t
    → IsPacked n ws → IsPacked m vs → length ws ≡ length vs
same_words n m ws vs s t e f h p q = same_count n m ws vs (same_size n m ws vs s t e f h) p q

-- ---- word by word: op does to a bit what test does to a mark, and join to all marks

module _ (op : ℕ → ℕ → ℕ) (test : Bool → Bool → Bool) (join : Marks → Marks → Marks) (none : test false false ≡ false)
    (bits : (a b k : ℕ) → b < 2 ^ 64 → k < 64 → (bit_at (op a b) k == 1) ≡ test (bit_at a k == 1) (bit_at b k == 1))
    (length-join : (s t : Marks) → length (join s t) ≡ length s)
    (holds-join : (s t : Marks) → length t ≤ length s → (f : ℕ) → holds (join s t) f ≡ test (holds s f) (holds t f)) where
  abbrev pub merged : List ℕ → List ℕ → List ℕ
  merged ws vs = map (λ (p : ℕ × ℕ). op p.0 p.1) (zip ws vs)

  module _ (size : ℕ) (ws vs : List ℕ) (p : IsPacked size ws) (q : IsPacked size vs) (fits : (k : ℕ) → get_or vs k 0 < 2 ^ 64) where
    same : length ws ≡ length vs
    same = p.count ∙ sym q.count

    length-merged : length (merged ws vs) ≡ length ws
    length-merged = length-map (zip ws vs) (λ (p : ℕ × ℕ). op p.0 p.1) ∙ length-zip ws vs ∙ omega (arith, same)

    get_or-merged : (k : ℕ) → k < length ws → get_or (merged ws vs) k 0 ≡ op (get_or ws k 0) (get_or vs k 0)
    get_or-merged k h =
        let l : k < length (zip ws vs) = omega (arith, length-zip ws vs, same) in
        get_or-map (λ (p : ℕ × ℕ). op p.0 p.1) (zip ws vs) k (0, 0) 0 l
        ∙ ap (λ (p : ℕ × ℕ). op p.0 p.1) (get_or-zip ws vs k (0, 0) h (omega (arith, same)))

    has_bit-merged : (f : ℕ) → has_bit (merged ws vs) f ≡ test (has_bit ws f) (has_bit vs f)
    has_bit-merged f = elim (cases_lt (f / 64) (length ws)) [
      | inl h ↦ ap (λ y. bit_at y (f % 64) == 1) (get_or-merged (f / 64) h) ∙ bits _ _ (f % 64) (fits (f / 64)) (omega arith)
      | inr h ↦ has_bit_past (merged ws vs) f (omega (arith, length-merged)) ∙ sym none
          ∙ sym (ap₂ test (has_bit_past ws f h) (has_bit_past vs f (omega (arith, same))))
    ]

    IsPacked-merged : IsPacked size (merged ws vs)
    IsPacked-merged = record {
      small = p.small;
      count = length-merged ∙ p.count;
      clear = λ f h. has_bit-merged f ∙ ap₂ test (p.clear f h) (q.clear f h) ∙ none;
    }

    marks_of-merged : marks_of size (merged ws vs) ≡ join (marks_of size ws) (marks_of size vs)
    marks_of-merged =
        let s = marks_of size ws in
        let t = marks_of size vs in
        ext_get_or false _ _ (length-marks_of size _ ∙ sym (length-join s t ∙ length-marks_of size ws))
        (λ i h. let low : i < size = omega (arith, length-marks_of size (merged ws vs)) in
        holds-marks_of size _ i low ∙ has_bit-merged i
        ∙ sym (holds-join s t (omega (arith, length-marks_of size ws, length-marks_of size vs)) i ∙ ap₂ test (holds-marks_of size ws i low) (holds-marks_of size vs i low)))

  -- the words after the merge of a set s with a set t
  pub record IsMerged (size : ℕ) (s t : Marks) (words : List ℕ) : Type 0 where
    pub packed : IsPacked size words
    pub marks : marks_of size words ≡ join s t

  -- the vector v of the first set, written through the slice xs, with ys as the slice of the second
  pub IsMerged-from_slices : {Z : Type 0} (v : Vec ℕ Z) (n m : ℕ) (vs xs ys new : List ℕ) (s t : Marks) → IsPacked n v.items → IsPacked m vs
      → marks_of n v.items ≡ s → marks_of m vs ≡ t → length s ≡ length t → xs ≡ v.items → ys ≡ vs
      → ((k : ℕ) → get_or ys k 0 < 2 ^ 64) → new ≡ merged xs ys → IsMerged n s t (with_items v new).items
  IsMerged-from_slices v n m vs xs ys new s t p q e f same x y fits is =
      let ws = v.items in
      let size = same_size n m ws vs s t e f same in
      let r : IsPacked n vs = subst (λ k. IsPacked k vs) (sym size) q in
      let fit : (k : ℕ) → get_or vs k 0 < 2 ^ 64 = subst (λ (zs : List ℕ). (k : ℕ) → get_or zs k 0 < 2 ^ 64) y fits in
      let news : new ≡ merged ws vs = is ∙ ap₂ merged x y in
      let long : length new ≡ v.len = omega (arith, ap length news, length-merged n ws vs p r fit, v.ok.0) in
      let written : (with_items v new).items ≡ merged ws vs = with_items_is v new long ∙ news in
      record {
        packed = subst (IsPacked n) (sym written) (IsPacked-merged n ws vs p r fit);
        marks = ap (marks_of n) written ∙ marks_of-merged n ws vs p r fit ∙ ap₂ join e (ap (λ k. marks_of k vs) size ∙ f);
      }

-- ---- the two merges

abbrev pub IsUnited : ℕ → Marks → Marks → List ℕ → Type 0
IsUnited = IsMerged bit_or (λ a b. a || b) union refl bit_or_test length-union holds-union

pub IsUnited-from_slices : {Z : Type 0} (v : Vec ℕ Z) (n m : ℕ) (vs xs ys new : List ℕ) (s t : Marks) → IsPacked n v.items → IsPacked m vs
    → marks_of n v.items ≡ s → marks_of m vs ≡ t → length s ≡ length t → xs ≡ v.items → ys ≡ vs
    → ((k : ℕ) → get_or ys k 0 < 2 ^ 64) → new ≡ map (λ (p : ℕ × ℕ). bit_or p.0 p.1) (zip xs ys) → IsUnited n s t (with_items v new).items
IsUnited-from_slices = IsMerged-from_slices bit_or (λ a b. a || b) union refl bit_or_test length-union holds-union

abbrev pub IsSubtracted : ℕ → Marks → Marks → List ℕ → Type 0
IsSubtracted = IsMerged (λ a b. bit_and a (2 ^ 64 - 1 - b)) (λ a b. a && not b) difference refl and_not_test length-difference (λ s t h. holds-difference s t)

pub IsSubtracted-from_slices : {Z : Type 0} (v : Vec ℕ Z) (n m : ℕ) (vs xs ys new : List ℕ) (s t : Marks) → IsPacked n v.items → IsPacked m vs
    → marks_of n v.items ≡ s → marks_of m vs ≡ t → length s ≡ length t → xs ≡ v.items → ys ≡ vs
    → ((k : ℕ) → get_or ys k 0 < 2 ^ 64) → new ≡ map (λ (p : ℕ × ℕ). bit_and p.0 (2 ^ 64 - 1 - p.1)) (zip xs ys)
    → IsSubtracted n s t (with_items v new).items
IsSubtracted-from_slices = IsMerged-from_slices (λ a b. bit_and a (2 ^ 64 - 1 - b)) (λ a b. a && not b) difference refl and_not_test length-difference (λ s t h. holds-difference s t)

-- ---- the least number in both

module _ (size : ℕ) (ws vs : List ℕ) (p : IsPacked size ws) (q : IsPacked size vs) where
  abbrev common : ℕ → ℕ
  common w = bit_and (get_or ws w 0) (get_or vs w 0)

  -- a number is in both if its bit is in both words
  both_at : (f : ℕ) → (holds (marks_of size ws) f && holds (marks_of size vs) f) ≡ (bit_at (common (f / 64)) (f % 64) == 1)
  both_at f = ap₂ (λ a b. a && b) (holds-marks_of_any size ws f p) (holds-marks_of_any size vs f q)
      ∙ sym (and_test (get_or ws (f / 64) 0) (get_or vs (f / 64) 0) (f % 64))

  off_where_apart : (f : ℕ) → common (f / 64) ≡ 0 → (holds (marks_of size ws) f && holds (marks_of size vs) f) ≡ false
  off_where_apart f e = both_at f ∙ ap (λ n. bit_at n (f % 64) == 1) e ∙ ap (λ n. n == 1) (bit_at-zero (f % 64))

  pub apart_from_words : ((k : ℕ) → k < length ws → common k ≡ 0) → AreDisjoint (marks_of size ws) (marks_of size vs)
  apart_from_words apart f = elim (cases_lt f size) [
    | inl h ↦ off_where_apart f (apart (f / 64) (word_within size f (length ws) p.count h))
    | inr h ↦ ap₂ (λ a b. a && b) (holds-marks_of_any size ws f p ∙ p.clear f h) (holds-marks_of_any size vs f q ∙ q.clear f h)
  ]

  pub least_from_words : (w : ℕ) → ((k : ℕ) → k < w → common k ≡ 0) → (z : ℕ) → IsLowestBit (common w) z
      → IsLeastCommon (marks_of size ws) (marks_of size vs) (w * 64 + z)
  least_from_words w apart z t =
      let z_below : z < 64 = t.below in
      let d : (w * 64 + z) / 64 ≡ w = omega arith in
      let m : (w * 64 + z) % 64 ≡ z = omega arith in
      let there : (holds (marks_of size ws) (w * 64 + z) && holds (marks_of size vs) (w * 64 + z)) ≡ true =
      both_at (w * 64 + z) ∙ ap₂ (λ a b. bit_at (common a) b == 1) d m ∙ ap (λ n. n == 1) t.set in
      record {
        first = and_first _ _ there;
        second = and_second _ _ there;
        least = λ g h. elim (cases_lt (g / 64) w) [
          | inl l ↦ off_where_apart g (apart (g / 64) l)
          | inr l ↦ (let same : g / 64 ≡ w = omega arith in let less : g % 64 < z = omega arith in
              both_at g ∙ ap (λ a. bit_at (common a) (g % 64) == 1) same ∙ ap (λ b. b == 1) (t.clear (g % 64) less))
        ];
      }

-- ---- at the slice xs of the words of a set s, and the words vs of a set t

module _ (n m : ℕ) (ws vs xs : List ℕ) (s t : Marks) (p : IsPacked n ws) (q : IsPacked m vs) (e : marks_of n ws ≡ s) (f : marks_of m vs ≡ t)
    (h : length s ≡ length t) (is : xs ≡ ws) where
  size : n ≡ m
  size = same_size n m ws vs s t e f h

  at_size : IsPacked n vs
  at_size = subst (λ k. IsPacked k vs) (sym size) q

  of_other : marks_of n vs ≡ t
  of_other = ap (λ k. marks_of k vs) size ∙ f

  pub same_slices : length xs ≡ length vs
  same_slices = ap length is ∙ same_count n n ws vs refl p at_size

  pub AreDisjoint-from_slices : ((k : ℕ) → k < length xs → bit_and (get_or xs k 0) (get_or vs k 0) ≡ 0) → AreDisjoint s t
  AreDisjoint-from_slices apart =
      let at_words : (k : ℕ) → k < length ws → bit_and (get_or ws k 0) (get_or vs k 0) ≡ 0 =
      subst (λ (ys : List ℕ). (k : ℕ) → k < length ys → bit_and (get_or ys k 0) (get_or vs k 0) ≡ 0) is apart in
      subst (AreDisjoint s) of_other (subst (λ a. AreDisjoint a (marks_of n vs)) e (apart_from_words n ws vs p at_size at_words))

  pub IsLeastCommon-from_slices : (w z y : ℕ) → w < length xs → y ≡ get_or vs w y
      → ((k : ℕ) → k < w → bit_and (get_or xs k 0) (get_or vs k 0) ≡ 0) → IsLowestBit (bit_and (get_or xs w 0) y) z → IsLeastCommon s t (w * 64 + z)
  IsLeastCommon-from_slices w z y low read apart bit =
      let at_words : (k : ℕ) → k < w → bit_and (get_or ws k 0) (get_or vs k 0) ≡ 0 =
      subst (λ (ys : List ℕ). (k : ℕ) → k < w → bit_and (get_or ys k 0) (get_or vs k 0) ≡ 0) is apart in
      let there : IsLowestBit (bit_and (get_or ws w 0) (get_or vs w 0)) z =
      subst (λ (ys : List ℕ). IsLowestBit (bit_and (get_or ys w 0) (get_or vs w 0)) z) is
      (subst (λ v. IsLowestBit (bit_and (get_or xs w 0) v) z) (get_or_read vs w y (omega (arith, same_slices)) read 0) bit) in
      subst (λ b. IsLeastCommon s b (w * 64 + z)) of_other
      (subst (λ a. IsLeastCommon a (marks_of n vs) (w * 64 + z)) e (least_from_words n ws vs p at_size w at_words z there))
