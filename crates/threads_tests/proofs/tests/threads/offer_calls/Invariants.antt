-- The seat stays the same CPU's at the table.
use Rattle.std.proofs.Common.{◌≡◌}
use Rattle.ring_table.specs.Seats.{SitsAt}
use Rattle.threads_tests.proofs.tests.threads.offer_calls.Given as goal

abbrev pub invariant-loop-i : goal.invariant-loop-i
invariant-loop-i l = SitsAt l.table l.seat × (l.seat.number ≡ l.fn.seat.number)
