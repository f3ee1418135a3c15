-- A table of functions as the list of its functions: the function at place n is function n.
use Rattle.std.specs.Prelude.{◌≡◌, ◌≢◌, ℕ, ◌≤◌, Bool, true, List, [], ◌∷◌, ◌++◌, map, length, Option, Some, None, position, All, AllPairs}
use Rattle.std.specs.Str.{bytes_eq}
use Rattle.ft_base.specs.declared.limits.TheConstants.{FUNCS}
use Rattle.ft_base.specs.Job.{Func}
use Rattle.ft_base.specs.Name.{is_name_text}

-- the functions by number, and how many there may be
pub record Table : Type 0 where
  pub functions : List Func
  pub limit : ℕ

-- the names, by number
abbrev pub names_of : Table → List (List ℕ)
names_of t = map (λ f. f.name) t.functions

-- the modules, by number
abbrev pub modules_of : Table → List (Option (List ℕ))
modules_of t = map (λ f. f.owner) t.functions

-- the number of the function of this name
abbrev pub number_of : Table → List ℕ → Option ℕ
number_of t name = position (bytes_eq name) (names_of t)

-- whether this is a name, or nothing
abbrev pub is_name_or_none : Option (List ℕ) → Bool
is_name_or_none None = true
is_name_or_none (Some name) = is_name_text name

-- a function's name is a name, and so is that of its module if it has one
pub record IsNamed (f : Func) : Type 0 where
  pub name : is_name_text f.name ≡ true
  pub owner : is_name_or_none f.owner ≡ true

-- the names are names and differ, and there are no more functions than the limit, which is at most FUNCS
pub record IsTable (t : Table) : Type 0 where
  pub named : All IsNamed t.functions
  pub distinct : AllPairs (λ a b. a ≢ b) (names_of t)
  pub within : length t.functions ≤ t.limit
  pub small : t.limit ≤ FUNCS

-- the new table has the function as its last, and n is its number
pub record IsAdded (old new : Table) (f : Func) (n : ℕ) : Type 0 where
  pub number : n ≡ length old.functions
  pub functions : new.functions ≡ old.functions ++ f ∷ []
  pub limit : new.limit ≡ old.limit
