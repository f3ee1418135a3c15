-- Words that are keys, words that are not, and words that are names.
use Rattle.std.proofs.Common.{◌≡◌, Bool, true, false, List, ◌∷◌, Some, None, refl, sym, subst, if◌then◌else◌}
use Rattle.std.specs.Bool.{Decides}
use Rattle.std.specs.Str.{bytes_eq}
use Rattle.std.proofs.lemmas.Slice.Eq.{bytes_eq-Decides}
use Rattle.script_text.specs.Lines.{Word}
use Rattle.script_text.specs.Names.{is_name, name_of}

pub is_key : (word key : Word) → bytes_eq word key ≡ true → word ≡ key
is_key word key = (bytes_eq-Decides word key).0

pub is_no_key : (word key : Word) → (word ≡ key → ⊥) → bytes_eq word key ≡ false
is_no_key word key differ = by (bytes_eq word key) (bytes_eq-Decides word key)
  where
    by : (r : Bool) → Decides r (word ≡ key) → r ≡ false
    by true d = absurd (differ (d.0 refl))
    by false d = refl

-- a choice by a key: what holds of the words if the first is the key, and if it isn't, holds
pub at_key : {X : Type 0} (t : X) (F : List Word → Type 0) (word key : Word) (args : List Word) {x y : X} → (x ≡ t → F (key ∷ args)) → (y ≡ t → F (word ∷ args)) → (if bytes_eq word key then x else y) ≡ t → F (word ∷ args)
at_key t F word key args {x} {y} first others e = by (bytes_eq word key) refl e
  where
    by : (b : Bool) → bytes_eq word key ≡ b → (if b then x else y) ≡ t → F (word ∷ args)
    by true is e = subst (λ w. F (w ∷ args)) (sym (is_key word key is)) (first e)
    by false is e = others e

-- a word that is read as a name is one
pub named : (word name : Word) → name_of word ≡ Some name → (is_name word ≡ true) × (word ≡ name)
named word name e = by (is_name word) refl e
  where
    by : (b : Bool) → is_name word ≡ b → (if b then Some word else None) ≡ Some name → (is_name word ≡ true) × (word ≡ name)
    by true is e = (is, cc)
    by false is e = absurd (cc)
