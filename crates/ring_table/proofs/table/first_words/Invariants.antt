-- There are so many zeros after the first word.
use Rattle.std.proofs.Common.{◌≡◌, ◌+◌, ◌≤◌, ◌∷◌, replicate, vec_capacity, vec_len}
use Rattle.ring_table.specs.Tally.{bit}
use Rattle.ring_table.proofs.table.first_words.Given as goal

abbrev pub invariant-loop-i : goal.invariant-loop-i
invariant-loop-i l = record {
  words : l.words.items ≡ bit l.fn.plan.tracing ∷ replicate l.i 0;
  count : vec_len l.words ≡ 1 + l.i;
  room : 1 + l.count ≤ vec_capacity l.words;
}
