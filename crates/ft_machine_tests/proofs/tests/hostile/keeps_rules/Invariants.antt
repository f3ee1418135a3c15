use Rattle.std.proofs.Common.{length}
use Rattle.ft_machine_tests.proofs.tests.hostile.keeps_rules.Given as goal

-- the actors to come
abbrev pub decreases-loop-actor : goal.decreases-loop-actor
decreases-loop-actor l = length l.player
