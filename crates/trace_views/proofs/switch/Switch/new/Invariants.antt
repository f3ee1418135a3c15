-- There are so many zeros.
use Rattle.std.proofs.Common.{◌≡◌, ◌≤◌, replicate, vec_capacity, vec_len}
use Rattle.trace_views.proofs.switch.Switch.new.Given as goal

abbrev pub invariant-loop-i : goal.invariant-loop-i
invariant-loop-i l = record {
  hits : l.hits.items ≡ replicate l.i 0;
  count : vec_len l.hits ≡ l.i;
  room : l.count ≤ vec_capacity l.hits;
}
