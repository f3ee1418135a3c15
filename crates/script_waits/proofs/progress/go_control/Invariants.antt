use Rattle.std.proofs.Common.{◌≡◌, ◌≤◌, ◌<◌, ◌-◌, ℕ, true, length, slice_get}
use Rattle.script_waits.specs.Greedy.{commands_in, passes_line}
use Rattle.script_waits.proofs.progress.go_control.Given as goal

abbrev pub invariant-loop-lines : goal.invariant-loop-lines
invariant-loop-lines l = record {
  up : l.fn.from.lines ≤ l.lines;
  within : l.lines ≤ length l.control;
  few : l.commands ≤ l.lines;
  counted : l.commands ≡ commands_in l.control l.lines;
  passed : (k : ℕ) → l.fn.from.lines ≤ k → k < l.lines → passes_line l.acts (slice_get l.control k) ≡ true;
}

abbrev pub decreases-loop-lines : goal.decreases-loop-lines
decreases-loop-lines l = length l.control - l.lines
