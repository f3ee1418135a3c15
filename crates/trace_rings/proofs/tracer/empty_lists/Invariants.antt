-- There are so many empty lists.
use Rattle.std.proofs.Common.{◌≡◌, ◌≤◌, vec_capacity, vec_len}
use Rattle.ring_rules.specs.Gathered.{lists_of, no_lists}
use Rattle.trace_rings.proofs.tracer.empty_lists.Given as goal

abbrev pub invariant-loop-i : goal.invariant-loop-i
invariant-loop-i l = record {
  lists : lists_of l.lists.items ≡ no_lists l.i;
  count : vec_len l.lists ≡ l.i;
  room : l.count ≤ vec_capacity l.lists;
}
