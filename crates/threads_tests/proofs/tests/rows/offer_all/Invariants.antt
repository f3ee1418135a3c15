-- The seat stays the same CPU's at the table.
use Rattle.std.proofs.Common.{◌≡◌}
use Rattle.ring_table.specs.Seats.{SitsAt}
use Rattle.threads_tests.proofs.tests.rows.offer_all.Given as goal

abbrev pub invariant-loop-place : goal.invariant-loop-place
invariant-loop-place l = SitsAt l.table l.seat × (l.seat.number ≡ l.fn.seat.number)
