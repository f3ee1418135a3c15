use Rattle.return_stack.proofs.MoveLaws.{plain-after_moves, caller_of-after_moves}
use Rattle.return_stack.proofs.laws.returns_reach_true_callers.Goals as goal

pub returns-clause-calls : goal.returns-clause-calls
returns-clause-calls c = plain-after_moves

pub returns-clause-returns : goal.returns-clause-returns
returns-clause-returns c = caller_of-after_moves
