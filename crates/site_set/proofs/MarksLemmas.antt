-- Members of sets as marks: what a reader of the contracts may rely on.
use Rattle.std.proofs.Common.{◌≡◌, ◌≢◌, ℕ, zero, suc, ◌+◌, ◌*◌, ◌<◌, ◌≤◌, ◌==◌, ◌&&◌, ◌||◌, not, Bool, true, false, [], ◌∷◌, Some, None, length, get_or, set, take, drop, replicate, cond, refl, sym, ap, ap₂, ◌∙◌, inl, inr, if◌then◌else◌, ◌/◌, ◌%◌, count_ones, map-id, arith, length-take, ext_get_or, nat_lt, count_by, get_or-set_same, get_or-set_other}
use Rattle.std.specs.List.{zip, position_or_len}
use Rattle.std.specs.Int.{bit_at}
use Rattle.std.proofs.Math.Bool.{or-false, and-true}
use Rattle.std.proofs.lemmas.Bool.{cases_lt, lt-ltb, le-ltb}
use Rattle.std.proofs.lemmas.List.{get_or_past, get_or-drop, get_or-take}
use Rattle.std.proofs.lemmas.List.Sums.{position_or_len_is}
use Rattle.std.proofs.lemmas.Slice.Zip.{length-zip, get_or-zip}
use Rattle.std.proofs.lemmas.Nat.Bits.{bit_at_lowest, bit_at-suc, bit_at-zero}
use Rattle.std.proofs.lemmas.Simd.{ones-mask_l}
use lib.Lanes.{mask_l}
use Rattle.ft_base.specs.Marks.{Marks, holds, empty, is_empty, union, difference}
use Rattle.site_set.specs.Marks.{least_common, number_with_bits, word_of, IsEmpty, AreDisjoint, IsLeastCommon}

-- ---- tests

pub and_first : (a b : Bool) → (a && b) ≡ true → a ≡ true
and_first true b e = refl
and_first false b e = e

pub and_second : (a b : Bool) → (a && b) ≡ true → b ≡ true
and_second true b e = e
and_second false b e = absurd cc

-- ---- the empty set

-- it has the size
pub length-empty : (n : ℕ) → length (empty n) ≡ n
length-empty zero = refl
length-empty (suc n) = ap suc (length-empty n)

-- it is std's list of n marks
pub empty-replicate : (n : ℕ) → empty n ≡ replicate n false
empty-replicate zero = refl
empty-replicate (suc n) = ap (λ (s : Marks). false ∷ s) (empty-replicate n)

-- it has no member
pub holds-empty : (n f : ℕ) → holds (empty n) f ≡ false
holds-empty zero f = refl
holds-empty (suc n) zero = refl
holds-empty (suc n) (suc f) = holds-empty n f

pub is_empty-empty : (n : ℕ) → is_empty (empty n) ≡ true
is_empty-empty zero = refl
is_empty-empty (suc n) = is_empty-empty n

-- a set passes the test exactly if no number is a member
pub IsEmpty-from_is_empty : (s : Marks) → is_empty s ≡ true → IsEmpty s
IsEmpty-from_is_empty [] e f = refl
IsEmpty-from_is_empty (true ∷ s) e f = absurd cc
IsEmpty-from_is_empty (false ∷ s) e zero = refl
IsEmpty-from_is_empty (false ∷ s) e (suc f) = IsEmpty-from_is_empty s e f

pub is_empty-from_IsEmpty : (s : Marks) → IsEmpty s → is_empty s ≡ true
is_empty-from_IsEmpty [] h = refl
is_empty-from_IsEmpty (true ∷ s) h = let no : true ≡ false = h zero in absurd cc
is_empty-from_IsEmpty (false ∷ s) h = is_empty-from_IsEmpty s (λ f. h (suc f))

-- ---- a member more or less

-- f is a member if its mark says so
pub holds-set_same : (s : Marks) (f : ℕ) (b : Bool) → f < length s → holds (set s f b) f ≡ b
holds-set_same s f b h = get_or-set_same s f b false h

-- every other number is as it was
pub holds-set_other : (s : Marks) (f g : ℕ) (b : Bool) → g ≢ f → holds (set s f b) g ≡ holds s g
holds-set_other s f g b h = get_or-set_other s f g b false h

-- ---- union and difference

-- the size of a union is that of the first set
pub length-union : (s t : Marks) → length (union s t) ≡ length s
length-union [] t = refl
length-union (x ∷ s) [] = refl
length-union (x ∷ s) (y ∷ t) = ap suc (length-union s t)

-- a number is in a union if it is in either set
pub holds-union : (s t : Marks) → length t ≤ length s → (f : ℕ) → holds (union s t) f ≡ (holds s f || holds t f)
holds-union [] [] h f = refl
holds-union [] (y ∷ t) h f = absurd (omega arith)
holds-union (x ∷ s) [] h f = sym (or-false (holds (x ∷ s) f))
holds-union (x ∷ s) (y ∷ t) h zero = refl
holds-union (x ∷ s) (y ∷ t) h (suc f) = holds-union s t (omega arith) f

-- the size of a difference is that of the first set
pub length-difference : (s t : Marks) → length (difference s t) ≡ length s
length-difference [] t = refl
length-difference (x ∷ s) [] = refl
length-difference (x ∷ s) (y ∷ t) = ap suc (length-difference s t)

-- a number is in a difference if it is in the first set alone
pub holds-difference : (s t : Marks) (f : ℕ) → holds (difference s t) f ≡ (holds s f && not (holds t f))
holds-difference [] t f = refl
holds-difference (x ∷ s) [] f = sym (and-true (holds (x ∷ s) f))
holds-difference (x ∷ s) (y ∷ t) zero = refl
holds-difference (x ∷ s) (y ∷ t) (suc f) = holds-difference s t f

-- a union with the empty set is the other set
pub union-empty : (t : Marks) → union (empty (length t)) t ≡ t
union-empty [] = refl
union-empty (y ∷ t) = ap (λ (s : Marks). y ∷ s) (union-empty t)

-- two sets of one size with the same members are one set
pub same_members : (s t : Marks) → length s ≡ length t → ((f : ℕ) → f < length s → holds s f ≡ holds t f) → s ≡ t
same_members s t e h = ext_get_or false s t e h

-- ---- the least number in both sets

abbrev both : Bool × Bool → Bool
both p = p.0 && p.1

length-pairs : (s t : Marks) → length s ≡ length t → length (zip s t) ≡ length s
length-pairs s t e = length-zip s t ∙ omega arith

both_at : (s t : Marks) → length s ≡ length t → (f : ℕ) → both (get_or (zip s t) f (false, false)) ≡ (holds s f && holds t f)
both_at s t e f = elim (cases_lt f (length s)) [
  | inl h ↦ ap both (get_or-zip s t f (false, false) h (omega arith))
  | inr h ↦ ap both (get_or_past (zip s t) f (false, false) (omega (arith, length-pairs s t e)))
      ∙ sym (ap₂ (λ a b. a && b) (get_or_past s f false h) (get_or_past t f false (omega arith)))
]

-- there is no least number if no number is in both
pub least_common-from_AreDisjoint : (s t : Marks) → length s ≡ length t → AreDisjoint s t → least_common s t ≡ None
least_common-from_AreDisjoint s t e apart =
    let pairs = zip s t in
    let all : position_or_len both pairs ≡ length pairs =
    position_or_len_is both pairs (length pairs) (false, false) (omega arith) (λ k h. both_at s t e k ∙ apart k) (λ h. absurd (omega arith)) in
    ap (λ i. cond (nat_lt i (length pairs)) (Some i) None) all ∙ ap (λ b. cond b (Some (length pairs)) None) (le-ltb _ _ (omega arith))

-- and if a number is the least in both, it is that
pub least_common-from_IsLeastCommon : (s t : Marks) → length s ≡ length t → (f : ℕ) → IsLeastCommon s t f → least_common s t ≡ Some f
least_common-from_IsLeastCommon s t e f l =
    let pairs = zip s t in
    let within : f < length pairs = elim (cases_lt f (length s)) [
      | inl h ↦ omega (arith, length-pairs s t e)
      | inr h ↦ (let no : false ≡ true = sym (get_or_past s f false h) ∙ l.first in absurd cc)
    ] in
    let at : position_or_len both pairs ≡ f =
    position_or_len_is both pairs f (false, false) (omega arith) (λ k h. both_at s t e k ∙ l.least k h)
    (λ h. both_at s t e f ∙ ap₂ (λ a b. a && b) l.first l.second) in
    ap (λ i. cond (nat_lt i (length pairs)) (Some i) None) at ∙ ap (λ b. cond b (Some f) None) (lt-ltb _ _ within)

-- ---- the word of marks

half : (b : Bool) (n : ℕ) → ((if b then 1 else 0) + 2 * n) / 2 ≡ n
half true n = omega arith
half false n = omega arith

low : (b : Bool) (n : ℕ) → ((if b then 1 else 0) + 2 * n) % 2 ≡ (if b then 1 else 0)
low true n = omega arith
low false n = omega arith

-- a bit of the number is the mark at its place
pub bit_at-number_with_bits : (bs : Marks) (i : ℕ) → bit_at (number_with_bits bs) i ≡ (if holds bs i then 1 else 0)
bit_at-number_with_bits [] i = bit_at-zero i
bit_at-number_with_bits (b ∷ bs) zero = bit_at_lowest (number_with_bits (b ∷ bs)) ∙ low b (number_with_bits bs)
bit_at-number_with_bits (b ∷ bs) (suc i) = bit_at-suc (number_with_bits (b ∷ bs)) i ∙ ap (λ n. bit_at n i) (half b (number_with_bits bs)) ∙ bit_at-number_with_bits bs i

is_one : (b : Bool) → ((if b then 1 else 0) == 1) ≡ b
is_one true = refl
is_one false = refl

-- a bit of a set's word is a mark of the set
pub bit_at-word_of : (s : Marks) (w i : ℕ) → i < 64 → (bit_at (word_of s w) i == 1) ≡ holds s (64 * w + i)
bit_at-word_of s w i h = ap (λ n. n == 1) (bit_at-number_with_bits (take 64 (drop (64 * w) s)) i) ∙ is_one _
    ∙ get_or-take 64 (drop (64 * w) s) i false h ∙ get_or-drop (64 * w) s i false

-- no bit of a word is above 63
pub bit_at-word_of_above : (s : Marks) (w i : ℕ) → 64 ≤ i → bit_at (word_of s w) i ≡ 0
bit_at-word_of_above s w i h = bit_at-number_with_bits (take 64 (drop (64 * w) s)) i
    ∙ ap (λ b. if b then 1 else 0) (get_or_past (take 64 (drop (64 * w) s)) i false (omega (arith, length-take 64 (drop (64 * w) s))))

-- ---- how many

ones_of_number : (bs : Marks) → count_ones (number_with_bits bs) ≡ count_by (λ b. b) bs
ones_of_number bs = ap (λ xs. count_ones (mask_l xs)) (sym (map-id bs)) ∙ ones-mask_l (λ (b : Bool). b) bs

-- a set's word has as many set bits as the set has members from 64 w to 64 w + 63
pub ones-word_of : (s : Marks) (w : ℕ) → count_ones (word_of s w) ≡ count_by (λ b. b) (take 64 (drop (64 * w) s))
ones-word_of s w = ones_of_number (take 64 (drop (64 * w) s))

-- a number in both sets tells them from two that have none
pub not_disjoint-from_IsLeastCommon : (s t : Marks) (f : ℕ) → IsLeastCommon s t f → AreDisjoint s t → ⊥
not_disjoint-from_IsLeastCommon s t f l apart = let no : true ≡ false = sym (ap₂ (λ a b. a && b) l.first l.second) ∙ apart f in absurd cc
