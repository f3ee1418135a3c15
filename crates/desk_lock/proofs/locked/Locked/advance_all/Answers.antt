use Rattle.std.proofs.Common.{arith}
use Rattle.desk_lock.proofs.Keeping.{held_count}
use Rattle.desk_lock.proofs.locked.Locked.advance_all.Goals as goal

pub loop-lane-init : goal.loop-lane-init
loop-lane-init g c =
    let n = held_count c.self.invariant in
    let e = c.len-lane-end.ensures in
    record { count = omega (arith, e, n, c.self.inside.lanes.ok.0); whole = λ m lt. absurd (omega arith) }

pub overflow_cast-lane : goal.overflow_cast-lane
overflow_cast-lane g c =
    let few = c.self.invariant.few in
    let test = c.loop-lane-test.true in
    let count = c.loop-lane.invariant.count in
    omega (arith, few, test, count)
