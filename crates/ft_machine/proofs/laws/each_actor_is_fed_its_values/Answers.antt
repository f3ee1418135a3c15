use Rattle.word_machine.specs.Machine.{start}
use Rattle.ft_machine.proofs.FedLaws.{control-is-fed, cpu-is-fed}
use Rattle.ft_machine.proofs.laws.each_actor_is_fed_its_values.Goals as goal

pub returns-clause-control : goal.returns-clause-control
unfolding start
returns-clause-control c = λ job actors. control-is-fed job actors (start job)

pub returns-clause-cpus : goal.returns-clause-cpus
unfolding start
returns-clause-cpus c = λ job actors i inside. cpu-is-fed job i inside actors (start job)
