use Rattle.std.proofs.Common.{arith}
use Rattle.live_lanes.proofs.Orders.{count_one, count_other}
use Rattle.live_lanes.proofs.counts.command_of.Goals as goal

pub loop-k-preserved-then-lanes-k : goal.loop-k-preserved-then-lanes-k
loop-k-preserved-then-lanes-k c =
    let i = c.loop-k.invariant in
    let t = c.if-lanes-k.true in
    let e = count_other c.args.lane c.args.lanes.now c.loop-k.k c.loop-k-test.true t in
    omega (arith, i, e)

pub loop-k-preserved : goal.loop-k-preserved
loop-k-preserved c =
    let i = c.loop-k.invariant in
    let t = c.if-lanes-k.false in
    let z = c.if-left-eq0.false in
    let e = count_one c.args.lane c.args.lanes.now c.loop-k.k c.loop-k-test.true t in
    omega (arith, i, e, z)
