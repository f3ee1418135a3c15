use Rattle.std.proofs.Common.{◌≡◌, ◌+◌, take}
use Rattle.live_lanes.specs.LaneItems.{count_in}
use Rattle.live_lanes.proofs.counts.command_of.Given as goal

abbrev pub invariant-loop-k : goal.invariant-loop-k
invariant-loop-k l = l.left + count_in l.lane (take l.k l.lanes) ≡ l.item
