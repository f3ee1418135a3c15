use Rattle.std.proofs.Common.{◌≡◌, ◌≤◌, take}
use Rattle.live_lanes.specs.LaneItems.{count_in}
use Rattle.live_lanes.proofs.counts.count.Given as goal

abbrev pub invariant-loop-k : goal.invariant-loop-k
invariant-loop-k l = record { own : l.own ≡ count_in l.lane (take l.k l.lanes); few : l.own ≤ l.k }
