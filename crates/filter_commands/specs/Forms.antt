-- The forms of filter texts, by their bytes alone.
use Rattle.std.specs.Prelude.{ℕ, ◌==◌, ◌&&◌, ◌||◌, Bool, true, false, not, List, [], ◌∷◌, length, drop, codes, nat_lt, nat_eq, Option, Some, None, if◌then◌else◌}
use Rattle.std.specs.List.{list_any, list_all, before_first, after_first, starts_with}
use Rattle.std.specs.Char.{is_ascii_digit}
use Rattle.std.specs.Str.Parse.{digits_value}
use Rattle.glob_filter.specs.Items.{exclamation_mark}

-- the bytes of a text
abbrev pub Text : Type 0
Text = List ℕ

-- the form of a text: it asks for the function at a line, counted from 1; for those that match a glob; or for those that
-- match a glob and are in a module that matches another one or, negated, aren't
pub data TextForm : Type 0 where
  line : (number : ℕ) → TextForm
  named : (glob : Text) → TextForm
  in_module : (glob : Text) → (negated : Bool) → (owner : Text) → TextForm

-- the code of `:`
abbrev pub colon : ℕ
colon = 58

-- whether the text has a `:`
abbrev pub has_colon : Text → Bool
has_colon text = list_any (λ b. b == colon) text

-- whether the text begins with a `!`, and the text without it
abbrev pub unmarked : Text → Bool × Text
unmarked [] = (false, [])
unmarked (b ∷ text) = if b == exclamation_mark then (true, text) else (false, b ∷ text)

-- whether the text is digits alone
abbrev pub is_number : Text → Bool
is_number text = nat_lt 0 (length text) && list_all is_ascii_digit text

-- the number isn't one of 1 to the greatest
abbrev pub is_outside : ℕ → ℕ → Bool
is_outside most number = (number == 0) || nat_lt most number

-- a glob and what comes after `:mod:`, an optional `!` and a glob; None if that glob is empty
abbrev pub module_with : Text → Bool × Text → Option TextForm
module_with glob owner = if length owner.1 == 0 then None else Some (in_module glob owner.0 owner.1)

-- a glob and what comes after the first `:`; None if that isn't `mod:` and a module without a `:`
abbrev pub module_form : Text → Text → Option TextForm
module_form glob after =
    if not (starts_with nat_eq after (codes "mod:")) then None
    else (if has_colon (drop 4 after) then None
    else module_with glob (unmarked (drop 4 after)))

-- the form of a text without its mark; None if it has a `:` and isn't GLOB, `:mod:` and MODULE
abbrev pub form_of : Text → Option TextForm
form_of text =
    if has_colon text then module_form (before_first (λ b. b == colon) text) (after_first (λ b. b == colon) text)
    else (if is_number text then Some (line (digits_value 10 text)) else Some (named text))

-- the glob before `:mod:`, of which an empty one means `*`
abbrev pub glob_or_all : Text → Text
glob_or_all glob = if length glob == 0 then codes "*" else glob
