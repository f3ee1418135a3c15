-- The lines of a script, and the words of a line.
use Rattle.std.specs.Prelude.{ℕ, ◌==◌, ◌||◌, ◌&&◌, not, nat_le, Bool, true, false, List, [], ◌∷◌, length, filter, Option, Some, None, if◌then◌else◌}
use Rattle.std.specs.List.{slice_split, list_all}

-- the bytes of a word
abbrev pub Word : Type 0
Word = List ℕ

-- a line: its bytes, and whether a line feed ends it
pub record Line : Type 0 where
  pub bytes : List ℕ
  pub ended : Bool

-- a line feed
abbrev pub is_feed : ℕ → Bool
is_feed b = b == 10

-- a space or a tab
abbrev pub is_blank : ℕ → Bool
is_blank b = (b == 32) || (b == 9)

-- the lines of a text's parts, of which each but the last ends with a line feed; an empty last part is no line
abbrev pub lines_from : List (List ℕ) → List Line
lines_from [] = []
lines_from (part ∷ []) = if length part == 0 then [] else record { bytes = part; ended = false } ∷ []
lines_from (part ∷ next ∷ parts) = record { bytes = part; ended = true } ∷ lines_from (next ∷ parts)

-- the lines of a text
unfoldable pub lines_of : List ℕ → List Line
lines_of text = lines_from (slice_split is_feed text)

-- the words of a line: its parts between blanks that aren't empty
unfoldable pub words_of : List ℕ → List Word
words_of line = filter (λ word. not (length word == 0)) (slice_split is_blank line)

-- the first word of a comment begins with `#`
abbrev pub is_comment : Word → Bool
is_comment [] = false
is_comment (b ∷ rest) = b == 35

-- a line of these words is skipped: it has none, or is a comment
abbrev pub is_skipped : List Word → Bool
is_skipped [] = true
is_skipped (word ∷ words) = is_comment word

-- a byte of a plain line: a blank, or one from 0x21 to 0x7E
abbrev pub is_plain_byte : ℕ → Bool
is_plain_byte b = is_blank b || (nat_le 33 b && nat_le b 126)

-- each byte is one of a plain line
abbrev pub is_plain : List ℕ → Bool
is_plain line = list_all is_plain_byte line

-- the text of a line, if it is plain
abbrev pub plain_text : List ℕ → Option (List ℕ)
plain_text line = if is_plain line then Some line else None
