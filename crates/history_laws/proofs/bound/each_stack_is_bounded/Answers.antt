use Rattle.history_laws.proofs.Stacks.{stack-bounded}
use Rattle.history_laws.proofs.bound.each_stack_is_bounded.Goals as goal

pub returns : goal.returns
returns c = stack-bounded
