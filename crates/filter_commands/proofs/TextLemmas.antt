-- The bytes of a text: its mark, its `:` and its number.
use Rattle.std.proofs.Common.{◌≡◌, ◌≢◌, ℕ, suc, ◌+◌, ◌<◌, ◌^◌, ◌==◌, ◌||◌, not, cond, arith, rules, Bool, true, false, List, [], ◌∷◌, length, Result, Err, refl, inl, inr, ap}
use Rattle.std.specs.List.{list_all, list_any, position_or_len}
use Rattle.std.specs.Char.{is_ascii_digit}
use Rattle.std.specs.Str.Parse.{digits_value, ParsesUnsigned}
use Rattle.std.proofs.lemmas.Bool.{and_parts, cases_lt, ltb-true, lt-ltb}
use Rattle.std.proofs.lemmas.Bool.Decides.{eqb_tells}
use Rattle.std.proofs.lemmas.Result.{OkIff-at_err}
use Rattle.std.proofs.lemmas.Str.Parse.{IsNumeralModel, numerals_by_value, parse_digits}
use Rattle.filter_commands.specs.Forms.{Text, is_number, is_outside, unmarked}

-- a text that doesn't begin with `!` has no mark
pub unmarked-other : (text : Text) → ((rest : Text) → text ≢ 33 ∷ rest) → unmarked text ≡ (false, text)
unmarked-other [] other = refl
unmarked-other (b ∷ text) other = elim (eqb_tells b 33) [
  | inl t ↦ absurd (other text (ap (λ x. x ∷ text) t.1))
  | inr f ↦ ap (λ (t : Bool). cond t (true, text) (false, b ∷ text)) f.0
]

-- if a search went to the end, no element passes
pub list_any-past : {X : Type 0} (p : X → Bool) (xs : List X) → position_or_len p xs ≡ length xs → list_any p xs ≡ false
list_any-past p [] e = refl
list_any-past p (x ∷ xs) e =
    elim (p x) as (λ b. cond (not b) (1 + position_or_len p xs) 0 ≡ suc (length xs) → (b || list_any p xs) ≡ false) [
      | true ↦ λ h. absurd (omega arith)
      | false ↦ λ h. list_any-past p xs (omega arith)
    ] e

abbrev IsDigits : Text → Type 0
IsDigits text = list_all is_ascii_digit text ≡ true

decimal_digits : IsNumeralModel IsDigits (digits_value 10)
decimal_digits = numerals_by_value _ (search rules)

-- a number that `parse` refuses is past every bound of 32 bits
pub is_outside-large : {E : Type 0} (most : ℕ) (text : Text) (r : Result ℕ E) (e : E) → most < 2 ^ 32 → is_number text ≡ true → ParsesUnsigned 32 10 text r → r ≡ Err e → is_outside most (digits_value 10 text) ≡ true
is_outside-large most text r e small h parsed is =
    let parts = and_parts _ _ h in
    let some : 0 < length text = ltb-true 0 (length text) parts.0 in
    let no = OkIff-at_err r _ _ e (parse_digits decimal_digits 32 text r parsed parts.1) is in
    let large : most < digits_value 10 text = elim (cases_lt (digits_value 10 text) (2 ^ 32)) [ inl below ↦ absurd (no (some, below)) | inr above ↦ omega arith ] in
    rw (lt-ltb most (digits_value 10 text) large) (or-true (digits_value 10 text == 0))
  where
    or-true : (b : Bool) → (b || true) ≡ true
    or-true true = refl
    or-true false = refl
