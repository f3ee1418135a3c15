-- There are so many zeros.
use Rattle.std.proofs.Common.{◌≡◌, ◌≤◌, replicate, vec_capacity, vec_len}
use Rattle.trace_rings.proofs.tracer.zeros.Given as goal

abbrev pub invariant-loop-i : goal.invariant-loop-i
invariant-loop-i l = record {
  numbers : l.numbers.items ≡ replicate l.i 0;
  count : vec_len l.numbers ≡ l.i;
  room : l.count ≤ vec_capacity l.numbers;
}
