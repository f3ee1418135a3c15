use Rattle.std.proofs.Common.{ℕ, ◌≡◌, ◌≢◌}
use Rattle.desk_lock.specs.Journals.{done_of}
use Rattle.live_lanes.specs.LaneItems.{as_items}
use Rattle.live_lanes.proofs.conduct.serve_lane.Given as goal

abbrev pub invariant-loop-item : goal.invariant-loop-item
invariant-loop-item g l = record {
  done : done_of l.lane (as_items l.value.lanes l.value.control.order) ≡ l.item;
  others : (m : ℕ) → m ≢ l.lane → done_of m (as_items l.value.lanes l.value.control.order)
      ≡ done_of m (as_items l.fn.value.lanes l.fn.value.control.order);
}
