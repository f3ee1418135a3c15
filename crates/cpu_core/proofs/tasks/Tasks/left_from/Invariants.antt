-- The tasks so far have no act left.
use Rattle.std.proofs.Common.{◌≡◌}
use Rattle.cpu_core.specs.Turns.{left_from}
use Rattle.cpu_core.proofs.tasks.Tasks.left_from.Given as goal

abbrev pub invariant-loop-i : goal.invariant-loop-i
invariant-loop-i l = left_from l.self l.i ≡ left_from l.self l.from
