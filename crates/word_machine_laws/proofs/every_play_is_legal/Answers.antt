use Rattle.word_machine_laws.proofs.every_play_is_legal.Goals as goal
use Rattle.word_machine_laws.proofs.Limited.{limited}
use Rattle.word_machine_laws.proofs.Ends.{every_play_is_legal}

pub returns : goal.returns
returns c = λ job l. every_play_is_legal job (limited job l)
