use Rattle.std.proofs.Common.{length}
use Rattle.fttell.proofs.trace.put_steps.Given as goal

abbrev pub decreases-loop-actor : goal.decreases-loop-actor
decreases-loop-actor g l = length l.player
