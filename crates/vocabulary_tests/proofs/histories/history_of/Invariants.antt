use Rattle.std.proofs.Common.{◌≡◌, ◌+◌, ◌≤◌, length, take}
use Rattle.vocabulary_tests.proofs.histories.history_of.Given as goal

-- the items so far are there, and there is room for the others
abbrev pub invariant-loop-item : goal.invariant-loop-item
invariant-loop-item l = record {
  items : l.history.items ≡ take l.item-index l.items;
  room : length l.items ≤ l.item-index + l.history.spare;
}
