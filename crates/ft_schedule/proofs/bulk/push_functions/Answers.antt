use Rattle.ft_schedule.proofs.Parts.{lines-none, lines-more}
use Rattle.ft_schedule.proofs.bulk.push_functions.Goals as goal

pub loop-function-init : goal.loop-function-init
loop-function-init c = lines-none _

pub loop-function-preserved : goal.loop-function-preserved
loop-function-preserved c = lines-more _ _ _ _ c.loop-function.invariant c.in_ok-push_function.ensures
