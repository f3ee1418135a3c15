use Rattle.std.proofs.Common.{◌≡◌, vec_len, vec_capacity}
use Rattle.live_lanes.proofs.Counting.{counts_from}
use Rattle.live_lanes.proofs.counts.counts_of.Given as goal

abbrev pub invariant-loop-lane : goal.invariant-loop-lane
invariant-loop-lane l = record {
  items : l.counts.items ≡ counts_from 0 l.lane l.lanes;
  made : vec_len l.counts ≡ l.lane;
  room : vec_capacity l.counts ≡ l.all;
}
