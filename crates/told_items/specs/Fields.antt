-- The fields of a JSON object.
use Rattle.std.specs.Prelude.{ℕ, Bool, not, ◌&&◌, ◌==◌, nat_le, List, [], ◌∷◌, ◌++◌, codes}
use Rattle.std.specs.Fmt.{decimal}
use Rattle.trace_views.specs.Words.{Word}

-- a field: its name, and its value as JSON
pub record Field : Type 0 where
  pub name : Word
  pub value : List ℕ

-- a byte that JSON doesn't escape in a text: none of those below the space, no quote and no backslash
abbrev pub is_plain : ℕ → Bool
is_plain b = nat_le 32 b && (not (b == 34) && not (b == 92))

-- a text of such bytes as JSON
abbrev pub quoted : Word → List ℕ
quoted word = codes "\"" ++ (word ++ codes "\"")

-- a field with a text
abbrev pub text : Word → Word → Field
text name word = record { name = name; value = quoted word }

-- a field with a number
abbrev pub number : Word → ℕ → Field
number name n = record { name = name; value = decimal n }

-- a field after others
abbrev pub field_text : Field → List ℕ
field_text field = codes ", \"" ++ (field.name ++ (codes "\": " ++ field.value))

-- fields after others
abbrev pub fields_text : List Field → List ℕ
fields_text [] = []
fields_text (field ∷ fields) = field_text field ++ fields_text fields
