use Rattle.return_stack.proofs.MoveLaws.{address_of-after_moves}
use Rattle.return_stack.proofs.laws.hooked_exactly_with_a_frame.Goals as goal

pub returns : goal.returns
returns c = λ s moves i within. address_of-after_moves s moves i
