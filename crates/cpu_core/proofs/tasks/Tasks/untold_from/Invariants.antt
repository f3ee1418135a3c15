-- The tasks so far have told.
use Rattle.std.proofs.Common.{◌≡◌}
use Rattle.cpu_core.specs.Turns.{untold_from}
use Rattle.cpu_core.proofs.tasks.Tasks.untold_from.Given as goal

abbrev pub invariant-loop-n : goal.invariant-loop-n
invariant-loop-n l = untold_from l.request l.self l.n ≡ untold_from l.request l.self l.from
