-- Words that are read one after the other.
use Rattle.std.specs.Prelude.{List, [], ◌∷◌, Option, Some, None}
use Rattle.script_text.specs.Lines.{Word}

-- what f makes of two values, if there are both
abbrev pub both : {A B C : Type 0} → (A → B → C) → Option A → Option B → Option C
both f None b = None
both f (Some a) None = None
both f (Some a) (Some b) = Some (f a b)

-- what these words say, if each says something
abbrev pub all_read : {A : Type 0} → (Word → Option A) → List Word → Option (List A)
all_read read [] = Some []
all_read read (word ∷ words) = both (λ value values. value ∷ values) (read word) (all_read read words)
