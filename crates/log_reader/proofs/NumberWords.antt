-- The number that a word writes.
use Rattle.std.proofs.Common.{cond, ◌≡◌, ℕ, ◌<◌, ◌≤◌, ◌^◌, Bool, true, false, ◌&&◌, nat_lt, List, ◌∷◌, length, get_or, Some, None, Result, Ok, Err, refl, sym, ap, ◌∙◌, arith, ltb-true}
use Rattle.std.specs.Prelude.{IfSome}
use Rattle.std.specs.Fmt.{decimal}
use Rattle.std.specs.Result.{result_ok}
use Rattle.std.specs.Str.{all_ascii_digits}
use Rattle.std.specs.Str.Parse.{AllDigits, digits_value, without_leading_plus, ParsesUnsigned}
use Rattle.std.proofs.lemmas.Bool.{lt-ltb}
use Rattle.std.proofs.lemmas.Fmt.{decimal_is_IsNumeral}
use Rattle.std.proofs.lemmas.Str.Parse.{IsNumeralModel, numerals_by_value, tells_all_ascii_digits, without_leading_plus_none}
use Rattle.ft_base.proofs.Small.{and_both}
use Rattle.trace_lines.proofs.LogWords.{decimal-first}
use Rattle.log_reader.specs.Reading.{digits_in, number_in}

own : IsNumeralModel (λ ds. all_ascii_digits ds ≡ true) (digits_value 10)
own = numerals_by_value _ tells_all_ascii_digits

-- digits of 32 bits
digits-some : (ds : List ℕ) (n : ℕ) → 0 < length ds → AllDigits 10 ds → digits_value 10 ds ≡ n → n < 2 ^ 32 → digits_in ds ≡ Some n
digits-some ds n long all is small = rw (lt-ltb 0 (length ds) long, own.from ds all, is, lt-ltb n (2 ^ 32) small) refl

digits-none : (ds : List ℕ) → (0 < length ds → AllDigits 10 ds → digits_value 10 ds < 2 ^ 32 → ⊥) → digits_in ds ≡ None
digits-none ds never = by ((nat_lt 0 (length ds) && all_ascii_digits ds) && nat_lt (digits_value 10 ds) (2 ^ 32)) refl
  where
    by : (t : Bool) → ((nat_lt 0 (length ds) && all_ascii_digits ds) && nat_lt (digits_value 10 ds) (2 ^ 32)) ≡ t → cond t (Some (digits_value 10 ds)) None ≡ None
    by false e = refl
    by true e =
        let both = and_both (nat_lt 0 (length ds) && all_ascii_digits ds) (nat_lt (digits_value 10 ds) (2 ^ 32)) e in
        let front = and_both (nat_lt 0 (length ds)) (all_ascii_digits ds) both.0 in
        absurd (never (ltb-true 0 (length ds) front.0) (own.to ds front.1) (ltb-true (digits_value 10 ds) (2 ^ 32) both.1))

-- what `parse` gives
pub number-parsed : {E : Type 0} (word : List ℕ) (r : Result ℕ E) → ParsesUnsigned 32 10 word r → result_ok r ≡ number_in word
unfolding number_in
number-parsed word (Ok x) h =
    let ds = without_leading_plus word in
    ap (λ (n : ℕ). Some n) h.1 ∙ sym (digits-some ds (digits_value 10 ds) h.0.0.0 h.0.0.1 refl h.0.1)
number-parsed word (Err e) h = sym (digits-none (without_leading_plus word) (λ long all small. h ((long, all), small)))

-- a number of 32 bits is read again
pub number-again : (n : ℕ) → n < 2 ^ 32 → number_in (decimal n) ≡ Some n
unfolding number_in
number-again n lt =
    let big : n < 2 ^ 64 = omega arith in
    let numeral = decimal_is_IsNumeral n big in
    let plain : without_leading_plus (decimal n) ≡ decimal n = without_leading_plus_none (decimal n) (λ e. first (decimal-first n big) e) in
    ap (λ (ds : List ℕ). digits_in ds) plain ∙ digits-some (decimal n) n numeral.0.0 numeral.0.1 numeral.1 lt
  where
    first : (d : ℕ) × (ds : List ℕ) × (decimal n ≡ d ∷ ds) × (48 ≤ d) × (d ≤ 57) → get_or (decimal n) 0 0 ≡ 43 → ⊥
    first f e =
        let is : f.0 ≡ 43 = sym (ap (λ (w : List ℕ). get_or w 0 0) f.2) ∙ e in
        let low = f.3 in
        absurd (omega (arith, is, low))

pub number-small : (word : List ℕ) → IfSome (number_in word) (λ n. n < 2 ^ 32)
unfolding number_in
number-small word = by ((nat_lt 0 (length ds) && all_ascii_digits ds) && nat_lt (digits_value 10 ds) (2 ^ 32)) refl
  where
    ds : List ℕ
    ds = without_leading_plus word

    by : (t : Bool) → ((nat_lt 0 (length ds) && all_ascii_digits ds) && nat_lt (digits_value 10 ds) (2 ^ 32)) ≡ t → IfSome (cond t (Some (digits_value 10 ds)) None) (λ n. n < 2 ^ 32)
    by false e = tt
    by true e = ltb-true (digits_value 10 ds) (2 ^ 32) (and_both (nat_lt 0 (length ds) && all_ascii_digits ds) (nat_lt (digits_value 10 ds) (2 ^ 32)) e).1
