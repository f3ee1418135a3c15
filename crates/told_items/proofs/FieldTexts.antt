-- Fields, one after the other.
use Rattle.std.proofs.Common.{◌≡◌, ℕ, List, [], ◌∷◌, ◌++◌, codes, refl, ap, ◌∙◌, append_assoc}
use Rattle.told_items.specs.Fields.{Field, field_text, fields_text}

-- fields and then others
pub fields-then : (a b : List Field) → fields_text a ++ fields_text b ≡ fields_text (a ++ b)
fields-then [] b = refl
fields-then (f ∷ a) b = append_assoc (field_text f) (fields_text a) (fields_text b) ∙ ap (λ (t : List ℕ). field_text f ++ t) (fields-then a b)

-- the same after another text
pub after : (front : List ℕ) (a b : List Field) → (front ++ fields_text a) ++ fields_text b ≡ front ++ fields_text (a ++ b)
after front a b = append_assoc front (fields_text a) (fields_text b) ∙ ap (λ (t : List ℕ). front ++ t) (fields-then a b)

-- three times
pub three : (front : List ℕ) (a b c : List Field) → front ++ (fields_text a ++ (fields_text b ++ fields_text c)) ≡ front ++ fields_text (a ++ (b ++ c))
three front a b c = ap (λ (t : List ℕ). front ++ t) (ap (λ (t : List ℕ). fields_text a ++ t) (fields-then b c) ∙ fields-then a (b ++ c))

-- a text in quotes, said in another way
pub text-is : (front : List ℕ) {a b : List ℕ} → a ≡ b → front ++ (a ++ codes "\"") ≡ front ++ (b ++ codes "\"")
text-is front e = ap (λ (t : List ℕ). front ++ (t ++ codes "\"")) e
