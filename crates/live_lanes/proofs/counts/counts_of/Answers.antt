use Rattle.std.proofs.Common.{rules, ◌≡◌, ℕ, subst, arith}
use Rattle.live_lanes.proofs.Counting.{are_counts, counts_from, counts_next}
use Rattle.live_lanes.proofs.counts.counts_of.Goals as goal

pub loop-lane-preserved : goal.loop-lane-preserved
loop-lane-preserved c =
    let i = c.loop-lane.invariant in
    record {
      items = counts_next c.loop-lane.lane c.args.lanes.now c.loop-lane.counts.items c.push_reserved.new.self.items c.count.result i.items
          c.count.ensures c.push_reserved.ensures.items;
      made = search rules;
      room = search rules;
    }

pub returns : goal.returns
returns c =
    let up = c.loop-lane.auto.lane-end in
    let over = c.loop-lane-test.false in
    let a = c.lane_count-all in
    let e : c.loop-lane.lane ≡ a.result = omega (arith, up, over) in
    let n = are_counts a.result c.args.lanes.now c.loop-lane.counts.items
    (subst (λ (m : ℕ). c.loop-lane.counts.items ≡ counts_from 0 m c.args.lanes.now) e c.loop-lane.invariant.items) a.ensures.within in
    let len = n.1 in
    let lanes = a.ensures.few in
    record { counts = n.0; few = omega (arith, len, lanes); sum = n.2 }
