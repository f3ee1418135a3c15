-- The command's language: which words give which order.
use Rattle.std.specs.Prelude.{◌≡◌, ◌⊎◌, ◌≤◌, ℕ, List, [], ◌∷◌, ◌++◌, Option, Some, None, codes, length, true}
use Rattle.std.specs.List.{list_all}
use Rattle.std.specs.Char.{is_ascii_digit}
use Rattle.std.specs.Str.Parse.{digits_value}
use Rattle.ft_words.specs.declared.seed.TheConstants.{SEED_DIGITS}
use Rattle.ft_words.specs.declared.order.Form.{Form}
use Rattle.ft_words.specs.declared.order.Form.TheVariants.{Log, Function, Graph, Profile, Enabled, Modules, Rings}
use Rattle.ft_words.specs.declared.order.Order.{Order}
use Rattle.ft_words.specs.declared.order.Order.TheVariants.{Replay, Run, Bulk}

-- a word: its bytes
abbrev pub Text : Type 0
Text = List ℕ

-- ## how a mode and an option are spelt

-- the value is one of the list
abbrev pub IsOneOf : {X : Type 0} → X → List X → Type 0
IsOneOf x [] = ⊥
IsOneOf x (y ∷ ys) = (x ≡ y) ⊎ IsOneOf x ys

-- the ways to say a mode alone: `--` may come before it or after it
abbrev pub spellings_of : Text → List (List Text)
spellings_of mode = (mode ∷ []) ∷ (codes "--" ∷ mode ∷ []) ∷ (mode ∷ codes "--" ∷ []) ∷ []

-- the ways to say an option of these words and a mode, in either order: `--` may come before a mode that is last, or at the end
abbrev pub spellings_with : Text → List Text → List (List Text)
spellings_with mode option = (option ++ mode ∷ []) ∷ (option ++ codes "--" ∷ mode ∷ [])
    ∷ (option ++ mode ∷ codes "--" ∷ []) ∷ (mode ∷ option) ∷ (mode ∷ (option ++ codes "--" ∷ [])) ∷ []

-- the words say this mode, and the option of this name with this value if one is said: it is the next word, or follows `=` in the same word
abbrev pub Spells : List Text → Text → Text → Option Text → Type 0
Spells words mode name None = IsOneOf words (spellings_of mode)
Spells words mode name (Some value) = IsOneOf words (spellings_with mode (name ∷ value ∷ []))
    ⊎ IsOneOf words (spellings_with mode ((name ++ codes "=" ++ value) ∷ []))

-- ## what they mean

-- the name of a form
abbrev pub form_name : Form → Text
form_name Log = codes "log"
form_name Function = codes "function"
form_name Graph = codes "graph"
form_name Profile = codes "profile"
form_name Enabled = codes "enabled"
form_name Modules = codes "modules"
form_name Rings = codes "rings"

-- the form is the one of the name that is said, and `log` if none is said
abbrev pub SaysForm : Option Text → Form → Type 0
SaysForm None form = form ≡ Log
SaysForm (Some text) form = text ≡ form_name form

-- the text is 1 to 10 decimal digits, and writes this number, which is at most 4,294,967,295
pub record IsSeed (text : Text) (seed : ℕ) : Type 0 where
  pub digits : list_all is_ascii_digit text ≡ true
  pub some : 1 ≤ length text
  pub few : length text ≤ SEED_DIGITS
  pub value : seed ≡ digits_value 10 text
  pub fits : seed ≤ 4294967295

-- the seed is the number that is said, and 1 if none is said
abbrev pub SaysSeed : Option Text → ℕ → Type 0
SaysSeed None seed = seed ≡ 1
SaysSeed (Some text) seed = IsSeed text seed

-- the order is that of this mode, and of this value of its option of this name if one is said
abbrev pub Means : Text → Text → Option Text → Order → Type 0
Means mode name value (Replay form) = (mode ≡ codes "replay") × (name ≡ codes "--print") × SaysForm value form
Means mode name value (Run form) = (mode ≡ codes "run") × (name ≡ codes "--print") × SaysForm value form
Means mode name value (Bulk seed) = (mode ≡ codes "bulk") × (name ≡ codes "--seed") × SaysSeed value seed

-- the words are in the language, and give this order: they say a mode, and its option with a value if one is said
pub record Gives (words : List Text) (order : Order) : Type 0 where
  pub mode : Text
  pub name : Text
  pub value : Option Text
  pub means : Means mode name value order
  pub spelt : Spells words mode name value
