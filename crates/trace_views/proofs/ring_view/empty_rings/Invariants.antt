-- There are so many empty rings.
use Rattle.std.proofs.Common.{◌≡◌, ◌≤◌, replicate, vec_capacity, vec_len}
use Rattle.trace_views.specs.LineRings.{empty_lines}
use Rattle.trace_views.proofs.ring_view.empty_rings.Given as goal

abbrev pub invariant-loop-i : goal.invariant-loop-i
invariant-loop-i l = record {
  rings : l.rings.items ≡ replicate l.i (empty_lines l.most);
  count : vec_len l.rings ≡ l.i;
  room : l.count ≤ vec_capacity l.rings;
}
