use Rattle.history_order.proofs.Control.{return-later}
use Rattle.history_order.proofs.places.a_return_may_come_later.Goals as goal

pub returns : goal.returns
returns c = λ job before after x call k answer of run. return-later job before after x call k answer of run
