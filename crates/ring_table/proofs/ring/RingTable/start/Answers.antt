-- The seats are new.
use Rattle.std.proofs.Common.{refl}
use Rattle.ring_table.proofs.Starting.{fresh-new}
use Rattle.ring_table.proofs.ring.RingTable.start.Goals as goal

pub returns-clause-seats : goal.returns-clause-seats
returns-clause-seats c = fresh-new _ _ _ _ _ c.in_ok-seats.ensures.seats refl refl
