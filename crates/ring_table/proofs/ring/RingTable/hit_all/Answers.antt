use Rattle.std.proofs.Common.{length, ap, subst, arith}
use Rattle.ring_rules.specs.Plan.{TracePlan}
use Rattle.ring_table.specs.Seats.{Board, HitFor}
use Rattle.ring_table.proofs.Offers.{hit-more}
use Rattle.ring_table.proofs.ring.RingTable.hit_all.Goals as goal

pub loop-i-preserved : goal.loop-i-preserved
loop-i-preserved c =
    let l = c.facts.ensures.lengths in
    let plan = ap (λ (p : TracePlan). length p.triggers) c.requires.table.1 in
    let end = c.trigger_count-i-end.ensures in
    let same = ap (λ (b : Board). length b.plan.triggers) c.self.view_is in
    let lt = c.loop-i-test.true in
    subst (λ n. HitFor c.args.item.now c.args.seat.now c.hit.new.seat n) (omega arith)
    (hit-more c.args.item.now c.args.seat.now c.loop-i.seat c.loop-i.i c.loop-i.invariant (omega (arith, l, plan, end, same, lt))
    (omega (arith, l, plan, end, same, lt))
    (c.requires.fresh c.loop-i.i) c.hit.new.seat c.hit.ensures)
