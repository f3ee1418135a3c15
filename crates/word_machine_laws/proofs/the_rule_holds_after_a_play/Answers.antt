use Rattle.word_machine_laws.proofs.the_rule_holds_after_a_play.Goals as goal
use Rattle.word_machine_laws.proofs.Limited.{limited}
use Rattle.word_machine_laws.proofs.Steps.{play_kept}

pub returns : goal.returns
returns c = λ job l. play_kept job (limited job l)
