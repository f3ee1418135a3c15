use Rattle.std.proofs.Common.{◌≡◌, ◌≤◌, ◌-◌, ℕ, length, drop}
use Rattle.module_coverage.specs.Spans.{commands_to, waits_in}
use Rattle.module_coverage.proofs.until.until.Given as goal

abbrev pub invariant-loop-lines : goal.invariant-loop-lines
invariant-loop-lines l = record {
  few : l.commands ≤ l.lines;
  passes : (n : ℕ) → l.acts ≤ n → commands_to l.task n l.fn.from.commands (drop l.fn.from.lines (waits_in l.control)) ≡ commands_to l.task n l.commands (drop l.lines (waits_in l.control));
}

abbrev pub decreases-loop-lines : goal.decreases-loop-lines
decreases-loop-lines l = length l.control - l.lines
