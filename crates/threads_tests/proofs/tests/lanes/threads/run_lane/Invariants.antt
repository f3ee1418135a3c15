use Rattle.std.proofs.Common.{◌-◌}
use Rattle.threads_tests.proofs.tests.lanes.threads.run_lane.Given as goal

abbrev pub decreases-loop : goal.decreases-loop
decreases-loop g l = l.seat.count - l.seat.done
