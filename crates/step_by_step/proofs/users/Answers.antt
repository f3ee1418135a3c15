use Rattle.std.proofs.Common.{ℕ, false, List, [], ◌∷◌, None, map, ap, ◌∙◌}
use Rattle.ft_base.specs.declared.user.Kind.TheVariants.{Function}
use Rattle.ft_base.specs.Job.{Spec}
use Rattle.user_specs.specs.Plain.{spec_of}
use Rattle.step_by_step.proofs.users.Goals as goal

-- the user with this name, alone
abbrev named : List ℕ → List Spec
named name = record { name = name; kind = Function; regs = false; ipmodify = None; pid = false; act = None } ∷ []

pub returns : goal.returns
returns c = ap (map spec_of) c.in_ok-vec.ensures.items ∙ ap named c.in_ok-from_str.ensures.ok
