use Rattle.std.proofs.Common.{[]}
use Rattle.threads_tests.proofs.tests.lanes.threads.lanes_run_in_threads.Given as goal

-- the counts of the test
abbrev pub ghosts-run_lanes : goal.ghosts-run_lanes
ghosts-run_lanes g a = record { counts = a.counts.now; name = [] }
