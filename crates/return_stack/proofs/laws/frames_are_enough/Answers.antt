use Rattle.return_stack.proofs.MoveLaws.{frames_in-after_moves}
use Rattle.return_stack.proofs.laws.frames_are_enough.Goals as goal

pub returns : goal.returns
returns c = frames_in-after_moves
