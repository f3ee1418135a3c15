-- The items of a pattern, and the items of a text.
use Rattle.std.specs.Prelude.{◌==◌, ◌+◌, ℕ, zero, suc, Bool, true, false, List, [], ◌∷◌, take, drop, position, Option, Some, None, if◌then◌else◌}

-- `byte b` matches the byte b, `any` one byte, `star` any bytes, also none, and `class negated ranges` one byte
-- that is in one of the ranges or, negated, in none; a range is given by its first and its last byte
pub data Item : Type 0 where
  byte : ℕ → Item
  any : Item
  star : Item
  class : Bool → List (ℕ × ℕ) → Item

-- the code of `*`
abbrev pub asterisk : ℕ
asterisk = 42

-- the code of `?`
abbrev pub question_mark : ℕ
question_mark = 63

-- the code of `[`
abbrev pub open_bracket : ℕ
open_bracket = 91

-- the code of `]`
abbrev pub close_bracket : ℕ
close_bracket = 93

-- the code of `!`
abbrev pub exclamation_mark : ℕ
exclamation_mark = 33

-- the code of `-`
abbrev pub hyphen : ℕ
hyphen = 45

-- the ranges of a class's content, read from the left: `a-b` is the range from a to b, any other byte is itself
abbrev pub ranges_of : List ℕ → List (ℕ × ℕ)
ranges_of [] = []
ranges_of (a ∷ []) = (a, a) ∷ []
ranges_of (a ∷ d ∷ []) = (a, a) ∷ (d, d) ∷ []
ranges_of (a ∷ d ∷ b ∷ rest) = if d == hyphen then (a, b) ∷ ranges_of rest else (a, a) ∷ ranges_of (d ∷ b ∷ rest)

-- how many bytes are between a content's first byte and the `]` that ends its class, if one does
abbrev pub class_end : List ℕ → Option ℕ
class_end content = position (λ b. b == close_bracket) (drop 1 content)

-- the class whose content begins `before` bytes after its `[`, or the byte `[` if no `]` ends one; and how many bytes
-- after the `[` belong to it
abbrev pub class_to : Bool → ℕ → List ℕ → Option ℕ → Item × ℕ
class_to negated before content None = (byte open_bracket, 0)
class_to negated before content (Some end) = (class negated (ranges_of (take (end + 1) content)), before + (end + 2))

-- whether the text begins with a `!`
abbrev pub is_negated : List ℕ → Bool
is_negated [] = false
is_negated (b ∷ text) = b == exclamation_mark

-- what a `[` before this text begins: a class ends at the first `]` that is not the first byte of its content
abbrev pub class_at : List ℕ → Item × ℕ
class_at text = if is_negated text then class_to true 1 (drop 1 text) (class_end (drop 1 text)) else class_to false 0 text (class_end text)

-- the item that the byte b begins before this text, and how many bytes of the text belong to it
abbrev pub first_item : ℕ → List ℕ → Item × ℕ
first_item b text = if b == asterisk then (star, 0)
    else (if b == question_mark then (any, 0)
    else (if b == open_bracket then class_at text else (byte b, 0)))

-- the items of a text whose first `taken` bytes belong to the item before it
abbrev pub items_after : ℕ → List ℕ → List Item
items_after taken [] = []
items_after zero (b ∷ text) = (first_item b text).0 ∷ items_after (first_item b text).1 text
items_after (suc taken) (b ∷ text) = items_after taken text

-- the items of a text, read from the left
abbrev pub items_of : List ℕ → List Item
items_of text = items_after 0 text
