use Rattle.word_machine_laws.proofs.the_rule_holds_at_the_start.Goals as goal
use Rattle.word_machine_laws.proofs.Start.{opens}

pub returns : goal.returns
returns c = λ job ok. opens job ok
