-- The names of modules as they are kept.
use Rattle.std.specs.Prelude.{ℕ, ◌≤◌, List, map, length, string_bytes}
use Rattle.ft_base.specs.declared.limits.TheConstants.{FUNCS}
use Rattle.module_table.specs.declared.names.ModuleNames.TheInside.{Inside}

-- the names, by number
abbrev pub names_of : Inside → List (List ℕ)
names_of n = map string_bytes n.names.keys

-- there are no more modules than there may be functions
abbrev pub AreFew : Inside → Type 0
AreFew n = length n.names.keys ≤ FUNCS
