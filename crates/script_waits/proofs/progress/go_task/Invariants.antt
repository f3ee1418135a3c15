use Rattle.std.proofs.Common.{◌≡◌, ◌≤◌, ◌<◌, ◌-◌, ℕ, true, length, slice_get}
use Rattle.script_waits.specs.Greedy.{passes_act}
use Rattle.script_waits.proofs.progress.go_task.Given as goal

abbrev pub invariant-loop-at : goal.invariant-loop-at
invariant-loop-at l = record {
  up : l.from ≤ l.at;
  within : l.at ≤ length l.acts;
  passed : (k : ℕ) → l.from ≤ k → k < l.at → passes_act l.commands (slice_get l.acts k) ≡ true;
}

abbrev pub decreases-loop-at : goal.decreases-loop-at
decreases-loop-at l = length l.acts - l.at
