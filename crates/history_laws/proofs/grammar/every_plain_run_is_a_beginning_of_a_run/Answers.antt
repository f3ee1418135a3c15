use Rattle.history_laws.proofs.grammar.every_plain_run_is_a_beginning_of_a_run.Goals as goal
use Rattle.history_laws.proofs.Complete.{run-if-plain}

pub returns : goal.returns
returns c = λ job t past is. run-if-plain job t past is
