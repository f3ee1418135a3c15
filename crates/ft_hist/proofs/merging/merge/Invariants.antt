-- The lists that are left have room; and written over what is there so far, they give the history.
use Rattle.std.proofs.Common.{◌≡◌, ◌+◌, ◌≤◌, drop, length}
use Rattle.std.specs.List.{AllByRecursion as Each}
use Rattle.ft_hist.specs.Placing.{AreCounted, by_place, items_of, placed_all, total}
use Rattle.ft_hist.proofs.merging.merge.Given as goal

abbrev pub invariant-loop-list : goal.invariant-loop-list
invariant-loop-list l = record {
  longer : length l.history.items + total (items_of (drop l.list-index l.list-items)) ≡ total (items_of l.fn.lists.items);
  room : total (items_of (drop l.list-index l.list-items)) ≤ l.history.spare;
}

abbrev pub invariant-loop-list-2 : goal.invariant-loop-list-2
invariant-loop-list-2 l = record {
  rest : placed_all l.history.items (items_of (drop l.list-index l.list-items)) ≡ by_place (items_of l.fn.lists.items);
  within : Each (AreCounted (length l.history.items)) (items_of (drop l.list-index l.list-items));
}
