use Rattle.std.proofs.Common.{◌≡◌, ◌≤◌, reverse, take}
use Rattle.ft_hist.specs.Past.{done}
use Rattle.trace_views.proofs.enabled.returned.Given as goal

abbrev pub invariant-loop-place : goal.invariant-loop-place
invariant-loop-place l = record {
  count : l.returned ≡ done (reverse (take l.place l.history.items));
  within : l.returned ≤ l.place;
}
