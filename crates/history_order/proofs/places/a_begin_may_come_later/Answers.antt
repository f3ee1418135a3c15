use Rattle.history_order.proofs.Control.{begin-later}
use Rattle.history_order.proofs.places.a_begin_may_come_later.Goals as goal

pub returns : goal.returns
returns c = λ job before after x call k of quiet. begin-later job before after x call k of quiet
