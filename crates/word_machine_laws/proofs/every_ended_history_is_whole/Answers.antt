use Rattle.word_machine_laws.proofs.every_ended_history_is_whole.Goals as goal
use Rattle.word_machine_laws.proofs.Limited.{limited}
use Rattle.word_machine_laws.proofs.Ends.{every_ended_run_is_whole}

pub returns : goal.returns
returns c = λ job actors l over. every_ended_run_is_whole job (limited job l) actors over
