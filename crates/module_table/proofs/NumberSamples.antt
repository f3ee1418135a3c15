-- Samples of modules by number.
use Rattle.std.proofs.Common.{◌≡◌, List, ℕ, [], ◌∷◌, Option, Some, None, refl}
use Rattle.std.specs.Prelude.{codes}
use Rattle.ft_base.specs.Job.{Func}
use Rattle.func_table.specs.Modules.{modules_in}

-- a function of this module
abbrev in_module : Option (List ℕ) → Func
in_module owner = record { name = codes "f"; owner = owner }

-- a module has the place of its first function, and stands once
first-functions : modules_in (in_module (Some (codes "snd")) ∷ in_module None ∷ in_module (Some (codes "ext3")) ∷ in_module (Some (codes "snd")) ∷ [])
    ≡ codes "snd" ∷ codes "ext3" ∷ []
first-functions = refl

-- functions without a module have none
no-modules : modules_in (in_module None ∷ in_module None ∷ []) ≡ []
no-modules = refl
