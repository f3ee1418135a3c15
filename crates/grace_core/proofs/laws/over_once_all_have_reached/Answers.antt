use Rattle.std.proofs.Common.{arith}
use Rattle.grace_core.specs.declared.waiter.WaitPhase.TheVariants.{Asking}
use Rattle.grace_core.proofs.WaitLaws.{over-HasSeen}
use Rattle.grace_core.proofs.laws.over_once_all_have_reached.Goals as goal

pub returns-clause-over : goal.returns-clause-over
returns-clause-over c shape quiet request values n over below =
    over-HasSeen shape quiet request Asking values n over below (omega arith)
