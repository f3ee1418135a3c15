-- The rest of the list, written over what is there so far, gives the whole.
use Rattle.std.proofs.Common.{◌≡◌, drop, length}
use Rattle.ft_hist.specs.Placing.{AreCounted, placed}
use Rattle.ft_hist.proofs.merging.place.Given as goal

abbrev pub invariant-loop-stamped : goal.invariant-loop-stamped
invariant-loop-stamped l = record {
  rest : placed l.history.items (drop l.stamped-index l.list) ≡ placed l.fn.history.items l.list;
  within : AreCounted (length l.history.items) (drop l.stamped-index l.list);
}
