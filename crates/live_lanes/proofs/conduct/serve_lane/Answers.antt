use Rattle.std.proofs.Common.{ℕ, ◌+◌, ◌∙◌, ap, sym}
use Rattle.desk_lock.specs.Journals.{done_of}
use Rattle.desk_lock.proofs.Keeping.{done_more, done_same}
use Rattle.live_lanes.specs.LaneItems.{as_items}
use Rattle.live_lanes.proofs.Orders.{differ}
use Rattle.live_lanes.proofs.conduct.serve_lane.Goals as goal

pub loop-item-preserved : goal.loop-item-preserved
loop-item-preserved g c =
    let i = c.loop-item.invariant in
    let j = as_items c.loop-item.value.lanes c.loop-item.value.control.order in
    let e = c.serve.ensures.served in
    record {
      done = ap (done_of c.args.lane) e ∙ done_more c.args.lane c.loop-item.item j ∙ ap (λ (n : ℕ). n + 1) i.done;
      others = λ m ne. ap (done_of m) e ∙ done_same m c.args.lane c.loop-item.item j (differ c.args.lane m (λ h. ne (sym h))) ∙ i.others m ne;
    }
