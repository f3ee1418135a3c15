use Rattle.ft_machine.specs.Machines.{IsOf}
use Rattle.step_by_step.specs.TheJob.{the_job}
use Rattle.step_by_step.proofs.run.Given as goal

abbrev pub invariant-loop-turn : goal.invariant-loop-turn
invariant-loop-turn g l = IsOf the_job l.machine
