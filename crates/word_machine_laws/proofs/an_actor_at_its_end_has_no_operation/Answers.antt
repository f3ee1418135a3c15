use Rattle.word_machine_laws.proofs.an_actor_at_its_end_has_no_operation.Goals as goal
use Rattle.word_machine.specs.Machine.{is_at_end}
use Rattle.word_machine_laws.proofs.Stops.{control-ends, cpu-ends}

pub returns-clause-control : goal.returns-clause-control
unfolding is_at_end
returns-clause-control c = λ job s. control-ends job s.control

pub returns-clause-cpus : goal.returns-clause-cpus
unfolding is_at_end
returns-clause-cpus c = λ job s i l r inside. cpu-ends job s r.kept i.0 inside
