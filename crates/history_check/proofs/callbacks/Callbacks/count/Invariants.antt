use Rattle.std.proofs.Common.{◌≡◌, ◌+◌, ◌≤◌, count_by, drop, map}
use Rattle.ft_hist.specs.Past.{is_at}
use Rattle.history_check.specs.CallbackList.{callback_of, callbacks_of}
use Rattle.history_check.proofs.callbacks.Callbacks.count.Given as goal

-- those so far and those to come are all
abbrev pub invariant-loop-at : goal.invariant-loop-at
invariant-loop-at l = record {
  few : l.count ≤ l.at;
  so_far : l.count + count_by (is_at l.task.0 l.ctx) (map callback_of (drop l.at l.self.open.items)) ≡ count_by (is_at l.task.0 l.ctx) (callbacks_of l.self);
}
