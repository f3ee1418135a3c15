use Rattle.word_machine_laws.proofs.each_operation_is_on_a_word_of_the_job.Goals as goal
use Rattle.word_machine_laws.proofs.Limited.{limited}
use Rattle.word_machine_laws.proofs.There.{control-there, cpu-there}

pub returns-clause-control : goal.returns-clause-control
returns-clause-control c = λ job s l r. control-there job (limited job l) s r.kept r.waits

pub returns-clause-cpus : goal.returns-clause-cpus
returns-clause-cpus c = λ job s i l r inside. cpu-there job (limited job l) s i inside r.kept
