use Rattle.history_order.proofs.Control.{begin-earlier}
use Rattle.history_order.proofs.places.a_begin_may_come_earlier.Goals as goal

pub returns : goal.returns
returns c = λ job before after x call k of met. begin-earlier job before after x call k of met
