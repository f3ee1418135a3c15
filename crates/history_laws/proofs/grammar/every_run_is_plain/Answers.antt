use Rattle.history_laws.proofs.grammar.every_run_is_plain.Goals as goal
use Rattle.history_laws.proofs.Sound.{plain-if-run}

pub returns : goal.returns
returns c = λ job t past more run. plain-if-run job t past more run
