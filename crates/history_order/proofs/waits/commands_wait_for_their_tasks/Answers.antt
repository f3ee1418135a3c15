use Rattle.history_order.proofs.Waiting.{at-begin}
use Rattle.history_order.proofs.waits.commands_wait_for_their_tasks.Goals as goal

pub returns : goal.returns
returns c = λ job items first rest k legal e. at-begin job items first rest k legal e
