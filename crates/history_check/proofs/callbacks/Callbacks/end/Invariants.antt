use Rattle.std.proofs.Common.{◌≡◌}
use Rattle.history_check.proofs.OpenCallbacks.{EndsFrom}
use Rattle.history_check.proofs.callbacks.Callbacks.end.Given as goal

-- none of those before this place is the one that ends
abbrev pub invariant-loop-at : goal.invariant-loop-at
invariant-loop-at l = record {
  same : l.self.open ≡ l.initial.self.open;
  before : EndsFrom l.call l.user.0 l.self.open.items l.at;
}
