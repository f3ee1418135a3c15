-- Lists of keys with values, as tables have them.
use Rattle.std.specs.Prelude.{◌≡◌, ℕ, Bool, true, false, List, [], ◌∷◌, ◌++◌, map, slice_get, Some}
use Rattle.std.specs.Global.{Vec}

-- what contracts see of the entries of a map
abbrev pub entries_of : {V : Type 0} → List (Vec ℕ × V) → List (List ℕ × V)
entries_of es = map (λ e. (e.0.items, e.1)) es

-- the list has this key, at some place and with some value
abbrev pub HasKey : {V : Type 0} → List (List ℕ × V) → List ℕ → Type 0
HasKey {V = V} es k = (i : ℕ) × (v : V) × (slice_get es i ≡ Some (k, v))

-- no key stands at two places
abbrev pub AreApart : {V : Type 0} → List (List ℕ × V) → Type 0
AreApart {V = V} es = (i j : ℕ) (k : List ℕ) (v w : V) → slice_get es i ≡ Some (k, v) → slice_get es j ≡ Some (k, w) → i ≡ j

-- after a key is added with its value, if it wasn't there
abbrev pub IsAdded : {V : Type 0} → Bool → List (List ℕ × V) → List ℕ → V → List (List ℕ × V) → Type 0
IsAdded true old k v new = new ≡ old ++ (k, v) ∷ []
IsAdded false old k v new = (new ≡ old) × HasKey old k

-- the later list begins with the earlier one
abbrev pub Grows : {V : Type 0} → List (List ℕ × V) → List (List ℕ × V) → Type 0
Grows {V = V} old new = (i : ℕ) (k : List ℕ) (v : V) → slice_get old i ≡ Some (k, v) → slice_get new i ≡ Some (k, v)
