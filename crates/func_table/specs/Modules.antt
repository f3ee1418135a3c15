-- The modules of a table of functions, by number: each once, in the order of their first functions.
use Rattle.std.specs.Prelude.{ℕ, not, List, [], ◌∷◌, filter, get_or, position, Option, Some, None}
use Rattle.std.specs.Str.{bytes_eq}
use Rattle.ft_base.specs.Job.{Func, no_func}

-- a function's module comes before those of the functions below it, and once
abbrev pub with_module : Option (List ℕ) → List (List ℕ) → List (List ℕ)
with_module None below = below
with_module (Some name) below = name ∷ filter (λ other. not (bytes_eq name other)) below

-- the names of the modules of these functions, by number
abbrev pub modules_in : List Func → List (List ℕ)
modules_in [] = []
modules_in (f ∷ fs) = with_module f.owner (modules_in fs)

-- the number of the module of this name, if there is a name and such a module
abbrev pub number_among : List (List ℕ) → Option (List ℕ) → Option ℕ
number_among modules None = None
number_among modules (Some name) = position (bytes_eq name) modules

-- the number of the module in which a function lies, if it lies in one
abbrev pub module_of : List Func → ℕ → Option ℕ
module_of functions f = number_among (modules_in functions) (get_or functions f no_func).owner
