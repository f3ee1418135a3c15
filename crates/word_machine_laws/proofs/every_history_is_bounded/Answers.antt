use Rattle.history_laws.proofs.Bounded.{task-bounded, history-bounded}
use Rattle.word_machine_laws.proofs.every_history_is_bounded.Goals as goal
use Rattle.word_machine_laws.proofs.Limited.{limited}
use Rattle.word_machine_laws.proofs.Lengths.{on-cpu}
use Rattle.word_machine_laws.proofs.Ends.{every_run_is_legal}

pub returns-clause-whole : goal.returns-clause-whole
returns-clause-whole c = λ job actors l. history-bounded job _ (every_run_is_legal job (limited job l) actors)

pub returns-clause-tasks : goal.returns-clause-tasks
returns-clause-tasks c = λ job actors t l. task-bounded job _ t (every_run_is_legal job (limited job l) actors)

pub returns-clause-cpus : goal.returns-clause-cpus
returns-clause-cpus c = λ job actors c' l. on-cpu job c' _ (every_run_is_legal job (limited job l) actors)
