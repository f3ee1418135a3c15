-- Words that are names, and words that are numbers.
use Rattle.std.specs.Prelude.{ℕ, ◌&&◌, ◌+◌, ◌-◌, ◌*◌, nat_le, Bool, false, [], ◌∷◌, length, Option, Some, None, if◌then◌else◌}
use Rattle.std.specs.List.{list_all}
use Rattle.std.specs.Char.{is_ascii_digit}
use Rattle.ft_base.specs.Name.{is_first_byte, is_later_byte}
use Rattle.script_text.specs.Lines.{Word}

-- a name but for its length: its first byte begins a name, and the others go in one
abbrev pub is_name : Word → Bool
is_name [] = false
is_name (first ∷ rest) = is_first_byte first && list_all is_later_byte rest

-- the word, if it is a name
abbrev pub name_of : Word → Option Word
name_of word = if is_name word then Some word else None

-- the number that these digits write after those of another
abbrev pub value_after : ℕ → Word → ℕ
value_after n [] = n
value_after n (digit ∷ rest) = value_after (n * 10 + (digit - 48)) rest

-- 1 to 10 digits
abbrev pub is_number : Word → Bool
is_number word = nat_le 1 (length word) && (nat_le (length word) 10 && list_all is_ascii_digit word)

-- the number that a word writes, if it is one
abbrev pub number_of : Word → Option ℕ
number_of word = if is_number word then Some (value_after 0 word) else None
