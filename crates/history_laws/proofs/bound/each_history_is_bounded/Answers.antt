use Rattle.history_laws.proofs.Bounded.{history-bounded}
use Rattle.history_laws.proofs.bound.each_history_is_bounded.Goals as goal

pub returns : goal.returns
returns c = history-bounded
