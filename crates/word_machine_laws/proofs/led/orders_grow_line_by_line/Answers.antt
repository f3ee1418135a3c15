use Rattle.word_machine_laws.proofs.LedOrders.{grown, whole}
use Rattle.word_machine_laws.proofs.led.orders_grow_line_by_line.Goals as goal

pub returns : goal.returns
returns c = record { grows = grown; all = whole }
