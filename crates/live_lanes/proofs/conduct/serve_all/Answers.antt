use Rattle.std.proofs.Common.{inl, inr, List, ℕ, ◌∙◌, length, ap, sym, slice_index, arith}
use Rattle.desk_lock.specs.Journals.{done_of}
use Rattle.desk_lock.proofs.Keeping.{merged, same_or_not}
use Rattle.live_lanes.specs.LaneItems.{as_items}
use Rattle.live_lanes.proofs.Orders.{below_other}
use Rattle.live_lanes.proofs.conduct.serve_all.Goals as goal

pub loop-lane-preserved : goal.loop-lane-preserved
loop-lane-preserved g c =
    let i = c.loop-lane.invariant in
    let s = c.serve_lane.ensures in
    let v = c.serve_lane.new.value in
    record {
      whole = λ m lt. elim (same_or_not m c.loop-lane.lane) [
        | inl h ↦ ap (λ (n : ℕ). done_of n (as_items v.lanes v.control.order)) h.0 ∙ s.whole ∙ ap (slice_index g.N.LaneNames.counts) (sym h.0)
        | inr h ↦ s.others m h.0 ∙ i.whole m (below_other m c.loop-lane.lane lt h.0)
      ];
      none = λ m le. s.others m (λ e. omega (arith, e, le)) ∙ i.none m (omega (arith, le));
    }

pub returns : goal.returns
returns g c =
    let v = c.loop-lane.value in
    let over = c.loop-lane-test.false in
    let n = ap (λ (l : List ℕ). length l) c.requires.counts.0 in
    merged g.N.LaneNames.counts (as_items v.lanes v.control.order) c.keeps.ensures.order
    (λ l lt. c.loop-lane.invariant.whole l (omega (arith, lt, over, n)))
