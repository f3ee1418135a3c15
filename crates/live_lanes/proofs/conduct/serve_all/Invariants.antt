use Rattle.std.proofs.Common.{ℕ, ◌≡◌, ◌<◌, ◌≤◌, slice_index}
use Rattle.desk_lock.specs.Journals.{done_of}
use Rattle.live_lanes.specs.LaneItems.{as_items}
use Rattle.live_lanes.proofs.conduct.serve_all.Given as goal

abbrev pub invariant-loop-lane : goal.invariant-loop-lane
invariant-loop-lane g l = record {
  whole : (m : ℕ) → m < l.lane → done_of m (as_items l.value.lanes l.value.control.order) ≡ slice_index g.N.LaneNames.counts m;
  none : (m : ℕ) → l.lane ≤ m → done_of m (as_items l.value.lanes l.value.control.order) ≡ 0;
}
