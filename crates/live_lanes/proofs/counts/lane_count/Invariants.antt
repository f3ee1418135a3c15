use Rattle.std.proofs.Common.{◌<◌, ◌≤◌, take}
use Rattle.std.specs.List.{AllByRecursion as Each}
use Rattle.ft_base.specs.declared.limits.TheConstants.{LANES}
use Rattle.live_lanes.proofs.counts.lane_count.Given as goal

abbrev pub invariant-loop-k : goal.invariant-loop-k
invariant-loop-k l = record { within : Each (λ lane. lane < l.count) (take l.k l.lanes); few : l.count ≤ LANES }
