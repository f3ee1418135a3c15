-- Names of functions, modules and users.
use Rattle.std.specs.Prelude.{ℕ, Bool, false, ◌||◌, ◌&&◌, ◌==◌, nat_le, nat_lt, List, [], ◌∷◌, length}
use Rattle.std.specs.List.{list_all}
use Rattle.ft_base.specs.declared.limits.TheConstants.{NAME_BYTES}

-- a byte from one to another
abbrev pub is_from_to : ℕ → ℕ → ℕ → Bool
is_from_to low high b = nat_le low b && nat_le b high

-- a letter or `_`
abbrev pub is_first_byte : ℕ → Bool
is_first_byte b = (is_from_to 65 90 b || is_from_to 97 122 b) || (b == 95)

-- a letter, `_`, a digit or `.`
abbrev pub is_later_byte : ℕ → Bool
is_later_byte b = (is_first_byte b || is_from_to 48 57 b) || (b == 46)

-- 1 to 63 bytes, of which the first is a letter or `_`
abbrev pub is_name_text : List ℕ → Bool
is_name_text [] = false
is_name_text (first ∷ rest) = is_first_byte first && list_all is_later_byte rest && nat_lt (length rest) NAME_BYTES
