use Rattle.std.proofs.Common.{◌≢◌, ℕ, zero, suc, ◌≤◌, Some, slice_get, refl, arith}
use Rattle.ft_base.specs.Job.{Register, commands}
use Rattle.step_by_step.specs.TheJob.{the_job}
use Rattle.step_by_step.proofs.Within.{named}
use Rattle.step_by_step.proofs.callbacks.Goals as goal

-- the job has no third command
no_third : (j : ℕ) → 2 ≤ j → slice_get (commands the_job) j ≢ Some (Register 0)
no_third zero from is = absurd (omega (arith, from))
no_third (suc zero) from is = absurd (omega (arith, from))
no_third (suc (suc i)) from is = absurd (cc)

pub returns-clause-silent : goal.returns-clause-silent
returns-clause-silent c before between after call =
    let same = c.history.ensures.items the_job c.requires in
    let legal = rw same at (c.history.ensures.legal the_job c.requires) in
    c.silent_after_unregistration.ensures.back the_job _ before between after 1 call (record { 0 = 0 }) named legal refl (λ j from _. no_third j from)
