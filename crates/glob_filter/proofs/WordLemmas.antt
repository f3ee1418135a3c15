-- The bits of words: one that is set, and a step of all places.
use Rattle.std.proofs.Common.{◌≡◌, ◌≢◌, ℕ, zero, suc, ◌+◌, ◌*◌, ◌/◌, ◌%◌, ◌^◌, ◌<◌, ◌≤◌, ◌==◌, ◌&&◌, ◌||◌, Bool, true, false, List, [], ◌∷◌, length, get_or, set, bit_or, bit_and, w64, refl, sym, ap, ap₂, ◌∙◌, inl, inr, arith, get_or-set_same, get_or-set_other, length-set}
use Rattle.std.specs.Int.{bit_at}
use Rattle.std.specs.List.{list_all}
use Rattle.std.proofs.lemmas.Bool.{cases_eq, cases_lt, and_parts, and_from, eq-eqb, ne_eqb, eqb-true}
use Rattle.std.proofs.lemmas.Nat.{and_le_l}
use Rattle.std.proofs.lemmas.List.{get_or_past}
use Rattle.std.proofs.lemmas.Nat.Bits.{shr_and_one, bit_at_set_same, bit_at_set_other, bit_at-zero, bit_at-suc, bit_at_above, bit_at_cat_low}
use Rattle.ft_base.proofs.Bits.{or_test, and_test, past_test}
use Rattle.ft_base.proofs.Small.{same_test}
use Rattle.glob_filter.specs.Places.{has_place, has_byte}

-- bit i of the word w
abbrev pub has_bit : List ℕ → ℕ → ℕ → Bool
has_bit words w i = bit_at (get_or words w 0) i == 1

-- ---- a bit that is set

module _ (ws : List ℕ) (w k y : ℕ) (within : w < length ws) (bit : k < 64) (was : y ≡ get_or ws w 0) where
  abbrev pub added : ℕ
  added = bit_or y (1 * 2 ^ k % 2 ^ 64)

  has_bit-added : (v i : ℕ) → has_bit (set ws w added) v i ≡ ((v == w && i == k) || has_bit ws v i)
  has_bit-added v i = elim (cases_eq v w) [
    | inl e ↦ ap (λ n. bit_at (get_or (set ws w added) n 0) i == 1) e ∙ ap (λ x. bit_at x i == 1) (get_or-set_same ws w added 0 within) ∙ elim (cases_eq i k) [
      | inl f ↦ ap (λ j. bit_at added j == 1) f ∙ ap (λ n. n == 1) (bit_at_set_same w64 y k bit)
          ∙ sym (ap₂ (λ a c. (a && c) || has_bit ws v i) (eq-eqb v w e) (eq-eqb i k f))
      | inr d ↦ ap (λ n. n == 1) (bit_at_set_other w64 y k bit i d) ∙ ap (λ x. bit_at x i == 1) was ∙ ap (λ n. has_bit ws n i) (sym e)
          ∙ sym (ap₂ (λ a c. (a && c) || has_bit ws v i) (eq-eqb v w e) (ne_eqb i k d))
    ]
    | inr d ↦ ap (λ x. bit_at x i == 1) (get_or-set_other ws w v added 0 d) ∙ sym (ap (λ a. (a && i == k) || has_bit ws v i) (ne_eqb v w d))
  ]

-- two places with one word and one bit are one
same_place : (p q : ℕ) → (p / 64 == q / 64 && p % 64 == q % 64) ≡ (p == q)
same_place p q = same_test (p / 64 == q / 64 && p % 64 == q % 64) (p == q)
    (λ h. let both = and_parts (p / 64 == q / 64) (p % 64 == q % 64) h in
    let words = eqb-true (p / 64) (q / 64) both.0 in
    let bits = eqb-true (p % 64) (q % 64) both.1 in
    let same : p ≡ q = omega arith in
    eq-eqb p q same)
    (λ h. let same : p ≡ q = eqb-true p q h in
    and_from (p / 64 == q / 64) (p % 64 == q % 64) (eq-eqb (p / 64) (q / 64) (ap (λ n. n / 64) same)) (eq-eqb (p % 64) (q % 64) (ap (λ n. n % 64) same)))

-- so are two places and bytes
same_byte : (p q b c : ℕ) → b < 256 → c < 256 → (p / 64 * 256 + b == q / 64 * 256 + c && p % 64 == q % 64) ≡ (p == q && b == c)
same_byte p q b c hb hc = same_test (p / 64 * 256 + b == q / 64 * 256 + c && p % 64 == q % 64) (p == q && b == c)
    (λ h. let both = and_parts (p / 64 * 256 + b == q / 64 * 256 + c) (p % 64 == q % 64) h in
    let words = eqb-true (p / 64 * 256 + b) (q / 64 * 256 + c) both.0 in
    let bits = eqb-true (p % 64) (q % 64) both.1 in
    let bytes : b ≡ c = omega arith in
    let same : p ≡ q = omega arith in
    and_from (p == q) (b == c) (eq-eqb p q same) (eq-eqb b c bytes))
    (λ h. let both = and_parts (p == q) (b == c) h in
    let same : p ≡ q = eqb-true p q both.0 in
    let bytes : b ≡ c = eqb-true b c both.1 in
    and_from (p / 64 * 256 + b == q / 64 * 256 + c) (p % 64 == q % 64) (eq-eqb _ _ (ap₂ (λ n m. n / 64 * 256 + m) same bytes)) (eq-eqb _ _ (ap (λ n. n % 64) same)))

pub has_place-set : (ws : List ℕ) (q y : ℕ) → q / 64 < length ws → y ≡ get_or ws (q / 64) 0
    → (p : ℕ) → has_place (set ws (q / 64) (bit_or y (1 * 2 ^ (q % 64) % 2 ^ 64))) p ≡ (p == q || has_place ws p)
has_place-set ws q y within was p =
    let bit : q % 64 < 64 = omega arith in
    has_bit-added ws (q / 64) (q % 64) y within bit was (p / 64) (p % 64) ∙ ap (λ x. x || has_place ws p) (same_place p q)

pub has_byte-set : (ws : List ℕ) (q c y : ℕ) → c < 256 → q / 64 * 256 + 256 ≤ length ws → y ≡ get_or ws (q / 64 * 256 + c) 0
    → (p b : ℕ) → b < 256 → has_byte (set ws (q / 64 * 256 + c) (bit_or y (1 * 2 ^ (q % 64) % 2 ^ 64))) p b ≡ ((p == q && b == c) || has_byte ws p b)
has_byte-set ws q c y hc room was p b hb =
    let bit : q % 64 < 64 = omega arith in
    let within : q / 64 * 256 + c < length ws = omega arith in
    has_bit-added ws (q / 64 * 256 + c) (q % 64) y within bit was (p / 64 * 256 + b) (p % 64) ∙ ap (λ x. x || has_byte ws p b) (same_byte p q b c hb hc)

-- ---- words of which none has a bit

zero_at : (xs : List ℕ) → list_all (λ word. word == 0) xs ≡ true → (k : ℕ) → get_or xs k 0 ≡ 0
zero_at [] h k = refl
zero_at (x ∷ xs) h zero = eqb-true x 0 (and_parts (x == 0) (list_all (λ word. word == 0) xs) h).0
zero_at (x ∷ xs) h (suc k) = zero_at xs (and_parts (x == 0) (list_all (λ word. word == 0) xs) h).1 k

pub has_place-none : (ws : List ℕ) → list_all (λ word. word == 0) ws ≡ true → (p : ℕ) → has_place ws p ≡ false
has_place-none ws h p = ap (λ y. bit_at y (p % 64) == 1) (zero_at ws h (p / 64)) ∙ ap (λ b. b == 1) (bit_at-zero (p % 64))

-- no bit is past the last word
has_place_past : (ws : List ℕ) (p : ℕ) → length ws ≤ p / 64 → has_place ws p ≡ false
has_place_past ws p h = past_test ws (p / 64) (p % 64) h

-- ---- a step of all places

-- `n << 63` has the lowest bit of n as its highest, and no other
top_bit : (n : ℕ) → bit_at (n * 2 ^ 63 % 2 ^ 64) 63 ≡ bit_at n 0
top_bit n = omega arith

top_other : (n i : ℕ) → i < 63 → bit_at (n * 2 ^ 63 % 2 ^ 64) i ≡ 0
top_other n i h =
    let e : n * 2 ^ 63 % 2 ^ 64 ≡ (n % 2) * 2 ^ 63 + 0 = omega arith in
    ap (λ m. bit_at m i) e ∙ bit_at_cat_low (n % 2) 63 0 i h ∙ bit_at-zero i

-- `n >> 1` has each bit one place lower, and `m << 63` the lowest of the word above
shifted : (n m i : ℕ) → n < 2 ^ 64 → i < 64
    → (bit_at (bit_or (n / 2 ^ 1) (m * 2 ^ 63 % 2 ^ 64)) i == 1) ≡ ((bit_at n (suc i) == 1) || (bit_at m 0 == 1 && i == 63))
shifted n m i fits h =
    or_test (n / 2 ^ 1) (m * 2 ^ 63 % 2 ^ 64) i ∙ ap₂ (λ x y. x || y) (ap (λ k. k == 1) (sym (bit_at-suc n i))) (elim (cases_eq i 63) [
      | inl e ↦ ap (λ j. bit_at (m * 2 ^ 63 % 2 ^ 64) j == 1) e ∙ ap (λ k. k == 1) (top_bit m) ∙ sym (and_last _ _ (eq-eqb i 63 e))
      | inr d ↦ let low : i < 63 = omega arith in ap (λ k. k == 1) (top_other m i low) ∙ sym (and_none _ _ (ne_eqb i 63 d))
    ])
  where
    and_last : (a b : Bool) → b ≡ true → (a && b) ≡ a
    and_last true b e = e
    and_last false b e = refl

    and_none : (a b : Bool) → b ≡ false → (a && b) ≡ false
    and_none true b e = e
    and_none false b e = refl

-- the places of a word whose item takes the byte
abbrev pub taken : List ℕ → List ℕ → ℕ → ℕ → ℕ
taken state takes b w = bit_and (get_or state w 0) (get_or takes (w * 256 + b) 0)

-- what comes down from a word
abbrev pub carried : List ℕ → List ℕ → ℕ → ℕ → ℕ
carried state takes b w = taken state takes b w * 2 ^ 63 % 2 ^ 64

-- a word after the step
abbrev pub stepped : List ℕ → List ℕ → List ℕ → ℕ → ℕ → ℕ
stepped state takes stars b w =
    bit_or (bit_or (taken state takes b w / 2 ^ 1) (carried state takes b (w + 1))) (bit_and (get_or state w 0) (get_or stars w 0))

-- nothing comes down from above the last word
pub carried_past : (state takes : List ℕ) (b w : ℕ) → length state ≤ w → carried state takes b w ≡ 0
carried_past state takes b w h =
    let none : get_or state w 0 ≡ 0 = get_or_past state w 0 h in
    let zero_taken : taken state takes b w ≡ 0 = omega (arith, and_le_l (get_or state w 0) (get_or takes (w * 256 + b) 0)) in
    ap (λ n. n * 2 ^ 63 % 2 ^ 64) zero_taken

module _ (state takes stars new : List ℕ) (b : ℕ) (fits : (k : ℕ) → get_or state k 0 < 2 ^ 64) (same : length new ≡ length state)
    (done : (k : ℕ) → k < length new → get_or new k 0 ≡ stepped state takes stars b k) where
  -- the place above, by the word and the bit of the place
  above : (p : ℕ) → ((bit_at (taken state takes b (p / 64)) (suc (p % 64)) == 1) || (bit_at (taken state takes b (p / 64 + 1)) 0 == 1 && p % 64 == 63))
      ≡ (has_place state (p + 1) && has_byte takes (p + 1) b)
  above p = elim (cases_eq (p % 64) 63) [
    | inl e ↦ (let w : (p + 1) / 64 ≡ p / 64 + 1 = omega arith in
        let i : (p + 1) % 64 ≡ 0 = omega arith in
        let less : taken state takes b (p / 64) < 2 ^ 64 = omega (arith, and_le_l (get_or state (p / 64) 0) (get_or takes (p / 64 * 256 + b) 0), fits (p / 64)) in
        let next : suc (p % 64) ≡ 64 = omega arith in
        let out : bit_at (taken state takes b (p / 64)) (suc (p % 64)) ≡ 0 = ap (bit_at (taken state takes b (p / 64))) next ∙ bit_at_above (taken state takes b (p / 64)) 64 64 less (omega arith) in
        ap₂ (λ x y. (x == 1) || (bit_at (taken state takes b (p / 64 + 1)) 0 == 1 && y)) out (eq-eqb (p % 64) 63 e)
        ∙ and_true (bit_at (taken state takes b (p / 64 + 1)) 0 == 1)
        ∙ ap₂ (λ v j. bit_at (taken state takes b v) j == 1) (sym w) (sym i)
        ∙ and_test (get_or state ((p + 1) / 64) 0) (get_or takes ((p + 1) / 64 * 256 + b) 0) ((p + 1) % 64))
    | inr d ↦ (let w : (p + 1) / 64 ≡ p / 64 = omega arith in
        let i : (p + 1) % 64 ≡ suc (p % 64) = omega arith in
        ap (λ y. (bit_at (taken state takes b (p / 64)) (suc (p % 64)) == 1) || (bit_at (taken state takes b (p / 64 + 1)) 0 == 1 && y)) (ne_eqb (p % 64) 63 d)
        ∙ or_none (bit_at (taken state takes b (p / 64)) (suc (p % 64)) == 1) (bit_at (taken state takes b (p / 64 + 1)) 0 == 1)
        ∙ ap₂ (λ v j. bit_at (taken state takes b v) j == 1) (sym w) (sym i)
        ∙ and_test (get_or state ((p + 1) / 64) 0) (get_or takes ((p + 1) / 64 * 256 + b) 0) ((p + 1) % 64))
  ]
    where
      and_true : (a : Bool) → (a && true) ≡ a
      and_true true = refl
      and_true false = refl

      or_none : (a c : Bool) → (a || (c && false)) ≡ a
      or_none true c = refl
      or_none false true = refl
      or_none false false = refl

  pub has_place-stepped : (p : ℕ) → has_place new p ≡ ((has_place state (p + 1) && has_byte takes (p + 1) b) || (has_place state p && has_place stars p))
  has_place-stepped p = elim (cases_lt (p / 64) (length new)) [
    | inl h ↦ (let less : taken state takes b (p / 64) < 2 ^ 64 = omega (arith, and_le_l (get_or state (p / 64) 0) (get_or takes (p / 64 * 256 + b) 0), fits (p / 64)) in
        let bit : p % 64 < 64 = omega arith in
        ap (λ y. bit_at y (p % 64) == 1) (done (p / 64) h)
        ∙ or_test (bit_or (taken state takes b (p / 64) / 2 ^ 1) (carried state takes b (p / 64 + 1))) (bit_and (get_or state (p / 64) 0) (get_or stars (p / 64) 0)) (p % 64)
        ∙ ap₂ (λ x y. x || y) (shifted (taken state takes b (p / 64)) (taken state takes b (p / 64 + 1)) (p % 64) less bit ∙ above p)
        (and_test (get_or state (p / 64) 0) (get_or stars (p / 64) 0) (p % 64)))
    | inr h ↦ (let over : length state ≤ p / 64 = omega (arith, same) in
        let over_next : length state ≤ (p + 1) / 64 = omega (arith, same) in
        has_place_past new p h
        ∙ sym (ap₂ (λ x y. (x && has_byte takes (p + 1) b) || (y && has_place stars p)) (has_place_past state (p + 1) over_next) (has_place_past state p over)))
  ]

-- ---- one word more of a step: v words are left before it, and w after

module _ (old takes stars state : List ℕ) (b v w carry : ℕ) (one : v ≡ w + 1) (below : w < length state)
    (untouched : (k : ℕ) → k < v → get_or state k 0 ≡ get_or old k 0) where
  abbrev pub word_after : ℕ
  word_after =
      bit_or (bit_or (bit_and (get_or state w 0) (get_or takes (w * 256 + b) 0) / 2 ^ 1) carry) (bit_and (get_or state w 0) (get_or stars w 0))

  was : get_or state w 0 ≡ get_or old w 0
  was = let low : w < v = omega arith in untouched w low

  pub carry_more : bit_and (get_or state w 0) (get_or takes (w * 256 + b) 0) * 2 ^ 63 % 2 ^ 64 ≡ carried old takes b w
  carry_more = ap (λ y. bit_and y (get_or takes (w * 256 + b) 0) * 2 ^ 63 % 2 ^ 64) was

  module _ (carry_is : carry ≡ carried old takes b v) where
    after_is : word_after ≡ stepped old takes stars b w
    after_is = ap₂ (λ y c. bit_or (bit_or (bit_and y (get_or takes (w * 256 + b) 0) / 2 ^ 1) c) (bit_and y (get_or stars w 0))) was
        (carry_is ∙ ap (carried old takes b) one)

    pub done_more : ((k : ℕ) → v ≤ k → k < length state → get_or state k 0 ≡ stepped old takes stars b k)
        → (k : ℕ) → w ≤ k → k < length (set state w word_after) → get_or (set state w word_after) k 0 ≡ stepped old takes stars b k
    done_more done k low high = elim (cases_eq k w) [
      | inl e ↦ ap (λ n. get_or (set state w word_after) n 0) e ∙ get_or-set_same state w word_after 0 below ∙ after_is ∙ ap (stepped old takes stars b) (sym e)
      | inr d ↦ (let from : v ≤ k = omega arith in
          let within : k < length state = omega (arith, length-set state w word_after) in
          get_or-set_other state w k word_after 0 d ∙ done k from within)
    ]

  pub untouched_more : (k : ℕ) → k < w → get_or (set state w word_after) k 0 ≡ get_or old k 0
  untouched_more k h =
      let d : k ≢ w = omega arith in
      let low : k < v = omega arith in
      get_or-set_other state w k word_after 0 d ∙ untouched k low

pub below_more : (state : List ℕ) (v w x : ℕ) → v ≡ w + 1 → v ≤ length state → w ≤ length (set state w x)
below_more state v w x one below = omega (arith, length-set state w x)

-- ---- the lowest bit

pub lowest_bit : (n : ℕ) → bit_and n 1 ≡ bit_at n 0
lowest_bit n = let e : n / 2 ^ 0 ≡ n = omega arith in ap (λ m. bit_and m 1) (sym e) ∙ shr_and_one n 0
