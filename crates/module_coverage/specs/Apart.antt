-- Users that stay out of the modules that come and go. Coverage speaks of the calls of a task's script alone: nothing says when a
-- user's act makes its call, or when a replacement runs, so the functions of both must always be there.
use Rattle.std.specs.Prelude.{ℕ, Option, Some, None, IfSome}
use Rattle.std.specs.List.{AllByRecursion as Each}
use Rattle.ft_base.specs.declared.user.Act.{Act}
use Rattle.ft_base.specs.declared.user.Act.TheVariants.{CallIn, IrqIn}
use Rattle.ft_base.specs.Job.{Job}
use Rattle.module_coverage.specs.Covered.{IsInChanging}

-- the function lies in no changing module
abbrev pub IsApart : Job → ℕ → Type 0
IsApart job f = IsInChanging job f → ⊥

-- nor does the function that an act calls, if there is an act
abbrev pub IsActApart : Job → Option Act → Type 0
IsActApart job None = Unit {0}
IsActApart job (Some (CallIn f)) = IsApart job f.0
IsActApart job (Some (IrqIn f)) = IsApart job f.0

-- no user's act calls a function of a changing module
abbrev pub AreActsApart : Job → Type 0
AreActsApart job = Each (λ s. IsActApart job s.act) job.users

-- no user puts a function of a changing module in the place of those that it traces
abbrev pub AreReplacementsApart : Job → Type 0
AreReplacementsApart job = Each (λ s. IfSome s.ipmodify (λ g. IsApart job g.0)) job.users
