-- The history is longer by the items so far.
use Rattle.std.proofs.Common.{◌≡◌, ◌+◌, ◌≤◌, length}
use Rattle.ft_hist.proofs.merging.fill.Given as goal

abbrev pub invariant-loop-stamped : goal.invariant-loop-stamped
invariant-loop-stamped l = record {
  longer : length l.history.items ≡ length l.fn.history.items + l.stamped-index;
  room : l.fn.history.spare ≤ l.history.spare + l.stamped-index;
}
