use Rattle.history_laws.proofs.Bounded.{task-bounded}
use Rattle.history_laws.proofs.bound.each_call_is_bounded.Goals as goal

pub returns : goal.returns
returns c = task-bounded
