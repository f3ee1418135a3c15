-- The test `is_fit` passes exactly if the name fits.
use Rattle.std.proofs.Common.{◌≡◌, ◌↔◌, ℕ, List, [], ◌∷◌, ◌++◌, refl, sym, ap, subst, Bool, true, false, true≢false, IsTrue, ◌||◌}
use Rattle.std.proofs.lemmas.Bool.{and_from, and_parts, or_left, or_right}
use Rattle.glob_filter.specs.Items.{Item, byte, any, star, class}
use Rattle.glob_filter.specs.Matching.{takes, some_rest, Fits, is_fit}

-- the test passes at what is left of the name after some of its bytes
abbrev SomeRest : (List ℕ → Bool) → List ℕ → Type 0
SomeRest test name = (front back : List ℕ) × (name ≡ front ++ back) × IsTrue (test back)

SomeRest-more : (test : List ℕ → Bool) (b : ℕ) (name : List ℕ) → SomeRest test name → SomeRest test (b ∷ name)
SomeRest-more test b name s = (b ∷ s.0, s.1, ap (λ rest. b ∷ rest) s.2, s.3)

SomeRest-split : (test : List ℕ → Bool) (b : ℕ) (name : List ℕ) (passes : Bool) → passes ≡ test (b ∷ name) → (IsTrue (some_rest test name) → SomeRest test name)
    → IsTrue (passes || some_rest test name) → SomeRest test (b ∷ name)
SomeRest-split test b name true e rest h = ([], b ∷ name, refl, sym e)
SomeRest-split test b name false e rest h = SomeRest-more test b name (rest h)

SomeRest-from : (test : List ℕ → Bool) (name : List ℕ) → IsTrue (some_rest test name) → SomeRest test name
SomeRest-from test [] h = ([], [], refl, h)
SomeRest-from test (b ∷ name) h = SomeRest-split test b name (test (b ∷ name)) refl (SomeRest-from test name) h

some_rest-from : (test : List ℕ → Bool) (front back : List ℕ) → IsTrue (test back) → IsTrue (some_rest test (front ++ back))
some_rest-from test [] [] h = h
some_rest-from test [] (b ∷ back) h = or_left (test (b ∷ back)) (some_rest test back) h
some_rest-from test (b ∷ front) back h = or_right (test (b ∷ (front ++ back))) (some_rest test (front ++ back)) (some_rest-from test front back h)

-- what passes the test fits
pub Fits-from_is_fit : (items : List Item) (name : List ℕ) → IsTrue (is_fit items name) → Fits items name
Fits-from_is_fit [] [] h = refl
Fits-from_is_fit [] (b ∷ name) h = absurd (true≢false (sym h))
Fits-from_is_fit (star ∷ items) name h =
    let s = SomeRest-from (is_fit items) name h in
    (s.0, s.1, s.2, Fits-from_is_fit items s.1 s.3)
Fits-from_is_fit (byte a ∷ items) [] h = absurd (true≢false (sym h))
Fits-from_is_fit (byte a ∷ items) (b ∷ name) h =
    (b, name, refl, (and_parts (takes (byte a) b) (is_fit items name) h).0, Fits-from_is_fit items name (and_parts (takes (byte a) b) (is_fit items name) h).1)
Fits-from_is_fit (any ∷ items) [] h = absurd (true≢false (sym h))
Fits-from_is_fit (any ∷ items) (b ∷ name) h = (b, name, refl, refl, Fits-from_is_fit items name h)
Fits-from_is_fit (class negated ranges ∷ items) [] h = absurd (true≢false (sym h))
Fits-from_is_fit (class negated ranges ∷ items) (b ∷ name) h =
    (b, name, refl, (and_parts (takes (class negated ranges) b) (is_fit items name) h).0, Fits-from_is_fit items name (and_parts (takes (class negated ranges) b) (is_fit items name) h).1)

-- what fits passes the test
pub is_fit-from_Fits : (items : List Item) (name : List ℕ) → Fits items name → IsTrue (is_fit items name)
is_fit-from_Fits [] name f = subst (λ n. IsTrue (is_fit [] n)) (sym f) refl
is_fit-from_Fits (star ∷ items) name f =
    subst (λ n. IsTrue (some_rest (is_fit items) n)) (sym f.2) (some_rest-from (is_fit items) f.0 f.1 (is_fit-from_Fits items f.1 f.3))
is_fit-from_Fits (byte a ∷ items) name f =
    subst (λ n. IsTrue (is_fit (byte a ∷ items) n)) (sym f.2) (and_from (takes (byte a) f.0) (is_fit items f.1) f.3 (is_fit-from_Fits items f.1 f.4))
is_fit-from_Fits (any ∷ items) name f =
    subst (λ n. IsTrue (is_fit (any ∷ items) n)) (sym f.2) (is_fit-from_Fits items f.1 f.4)
is_fit-from_Fits (class negated ranges ∷ items) name f =
    subst (λ n. IsTrue (is_fit (class negated ranges ∷ items) n)) (sym f.2) (and_from (takes (class negated ranges) f.0) (is_fit items f.1) f.3 (is_fit-from_Fits items f.1 f.4))

-- the test and the relation are one
pub is_fit-Fits : (items : List Item) (name : List ℕ) → IsTrue (is_fit items name) ↔ Fits items name
is_fit-Fits items name = (Fits-from_is_fit items name, is_fit-from_Fits items name)
