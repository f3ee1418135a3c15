use Rattle.std.specs.List.{AllByRecursion as Each}
use Rattle.ft_base.specs.declared.limits.TheConstants.{QUANTUM}
use Rattle.std.proofs.Common.{◌≤◌, List, ℕ, subst}
use Rattle.ft_job.proofs.JobLaws.{seen-quanta}
use Rattle.ft_job.proofs.job.Job.cpus.Goals as goal

pub returns-clause-quick : goal.returns-clause-quick
returns-clause-quick c = subst (λ (qs : List ℕ). Each (λ q. q ≤ QUANTUM) qs) (seen-quanta c.self.inside.parts _ c.self.view_is) c.self.invariant.quanta
