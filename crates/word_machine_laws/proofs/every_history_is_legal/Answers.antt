use Rattle.word_machine_laws.proofs.every_history_is_legal.Goals as goal
use Rattle.word_machine_laws.proofs.Limited.{limited}
use Rattle.word_machine_laws.proofs.Ends.{every_run_is_legal}

pub returns : goal.returns
returns c = λ job actors l. every_run_is_legal job (limited job l) actors
