-- Values of fields.
use Rattle.std.specs.Prelude.{ℕ, zero, suc, Bool, true, false, ◌||◌, ◌&&◌, ◌==◌, List, [], ◌∷◌, ◌++◌, codes, Option, Some, None, is_none, if◌then◌else◌}
use Rattle.trace_views.specs.Words.{Word}
use Rattle.told_items.specs.Fields.{Field, quoted}
use Rattle.told_items.specs.ItemText.{comma}

-- what is written of a thing, or null if there is none
abbrev pub or_null : {A : Type 0} → (A → List ℕ) → Option A → List ℕ
or_null write None = codes "null"
or_null write (Some a) = write a

-- a field with such a value
abbrev pub optional : {A : Type 0} → (A → List ℕ) → Word → Option A → Field
optional write name a = record { name = name; value = or_null write a }

-- a byte as it stands in a text: a quote or a backslash has a backslash before it
abbrev pub escaped_byte : ℕ → List ℕ
escaped_byte b = if (b == 34) || (b == 92) then 92 ∷ b ∷ [] else b ∷ []

-- bytes as they stand in a text
abbrev pub escaped : List ℕ → List ℕ
escaped [] = []
escaped (b ∷ bytes) = escaped_byte b ++ escaped bytes

-- what stands before a word of a text, the first or another
abbrev pub space : Bool → List ℕ
space is_first = if is_first then [] else codes " "

-- words as they stand in a text, each but the first with a space before it
abbrev pub words_after : Bool → List Word → List ℕ
words_after is_first [] = []
words_after is_first (word ∷ words) = space is_first ++ (escaped word ++ words_after false words)

-- an element of a list that there may be
abbrev pub part : Bool → Option (List ℕ) → List ℕ
part is_first None = []
part is_first (Some text) = comma is_first ++ text

-- the elements of a list that these so many numbers from a first one on make, each one or none
abbrev pub parts : (ℕ → Option (List ℕ)) → Bool → ℕ → ℕ → List ℕ
parts say is_first from zero = []
parts say is_first from (suc n) = part is_first (say from) ++ parts say (is_first && is_none (say from)) (suc from) n

-- the list that so many numbers make
abbrev pub list_of : (ℕ → Option (List ℕ)) → ℕ → List ℕ
list_of say n = codes "[" ++ (parts say true 0 n ++ codes "]")
