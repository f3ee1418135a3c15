use Rattle.std.proofs.Common.{◌∙◌, sym, ap, ℕ, ◌+◌, arith}
use Rattle.live_lanes.proofs.Orders.{count_one, count_other}
use Rattle.live_lanes.proofs.counts.count.Goals as goal

pub loop-k-preserved-then-lanes-k : goal.loop-k-preserved-then-lanes-k
loop-k-preserved-then-lanes-k c =
    let i = c.loop-k.invariant in
    let few = i.few in
    record { own = i.own ∙ sym (count_other c.args.lane c.args.lanes.now c.loop-k.k c.loop-k-test.true c.if-lanes-k.true); few = omega (arith, few) }

pub loop-k-preserved : goal.loop-k-preserved
loop-k-preserved c =
    let i = c.loop-k.invariant in
    let few = i.few in
    record {
      own = ap (λ (n : ℕ). n + 1) i.own ∙ sym (count_one c.args.lane c.args.lanes.now c.loop-k.k c.loop-k-test.true c.if-lanes-k.false);
      few = omega (arith, few);
    }
