use Rattle.std.proofs.Common.{ℕ, ◌≤◌, drop}
use Rattle.task_core.specs.TaskInvariant.{StaysWithin}
use Rattle.task_core.proofs.task.deepest.Given as goal

-- no more calls are open than acts were seen, nor more than the most so far; and whatever limit the acts to come stay within, all acts do
abbrev pub invariant-loop-act : goal.invariant-loop-act
invariant-loop-act l = record {
  seen : l.count ≤ l.act-index;
  few : l.most ≤ l.act-index;
  counted : l.count ≤ l.most;
  within : (limit : ℕ) → l.most ≤ limit → StaysWithin limit l.count (drop l.act-index l.acts) → StaysWithin limit 0 l.acts;
}
