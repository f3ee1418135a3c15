use Rattle.history_laws.proofs.grammar.every_legal_history_keeps_the_grammar.Goals as goal
use Rattle.history_laws.proofs.Complete.{run-if-legal}

pub returns : goal.returns
returns c = λ job items t legal. run-if-legal job t items legal
