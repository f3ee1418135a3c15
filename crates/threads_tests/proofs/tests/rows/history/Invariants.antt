-- There is room for the items that are to come.
use Rattle.std.proofs.Common.{◌+◌, ◌≤◌}
use Rattle.threads_tests.proofs.tests.rows.history.Given as goal

abbrev pub invariant-loop-place : goal.invariant-loop-place
invariant-loop-place l = 26 ≤ l.place + l.history.spare
