use Rattle.control_core.proofs.Led.{order-seen}
use Rattle.control_core.proofs.control.Control.order.Goals as goal

pub returns-clause-lines : goal.returns-clause-lines
returns-clause-lines c = order-seen c.self.inside c.args.self.now c.self.view_is c.as_slice.result.now c.as_slice.ensures.value
