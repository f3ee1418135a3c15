-- What `parse` gives at a seed.
use Rattle.std.proofs.Common.{◌≡◌, ◌<◌, ◌^◌, arith, rules, true, ℕ, length, Result, Ok, Err}
use Rattle.std.specs.Prelude.{IfNone}
use Rattle.std.specs.List.{list_all}
use Rattle.std.specs.Char.{is_ascii_digit}
use Rattle.std.specs.Result.{OkIff, result_ok}
use Rattle.std.specs.Str.Parse.{digits_value, ParsesUnsigned}
use Rattle.std.proofs.lemmas.Str.Parse.{IsNumeralModel, numerals_by_value, parse_digits}
use Rattle.ft_words.specs.Language.{Text, IsSeed}

abbrev IsDigits : Text → Type 0
IsDigits text = list_all is_ascii_digit text ≡ true

decimal_digits : IsNumeralModel IsDigits (digits_value 10)
decimal_digits = numerals_by_value _ (search rules)

none-given : {E : Type 0} (text : Text) (r : Result ℕ E) → OkIff r ((0 < length text) × (digits_value 10 text < 2 ^ 32)) (digits_value 10 text) → IfNone (result_ok r) ((n : ℕ) → IsSeed text n → ⊥)
none-given text (Ok x) h = tt
none-given text (Err e) h = λ n s. h (s.some, omega (arith, s.value, s.fits))

-- digits that `parse` refuses write no seed
pub no_seed-parse : {E : Type 0} (text : Text) (r : Result ℕ E) → ParsesUnsigned 32 10 text r → IsDigits text → IfNone (result_ok r) ((n : ℕ) → IsSeed text n → ⊥)
no_seed-parse text r h d = none-given text r (parse_digits decimal_digits 32 text r h d)
