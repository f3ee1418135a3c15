use Rattle.history_order.proofs.Control.{return-earlier}
use Rattle.history_order.proofs.places.a_return_may_come_earlier.Goals as goal

pub returns : goal.returns
returns c = λ job before after x call k answer of quiet. return-earlier job before after x call k answer of quiet
