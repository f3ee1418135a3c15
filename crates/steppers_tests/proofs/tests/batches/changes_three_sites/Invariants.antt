use Rattle.std.proofs.Common.{◌≡◌}
use Rattle.steppers_tests.proofs.tests.batches.changes_three_sites.Given as goal

-- the shape stays, and each row was a move
abbrev pub invariant-loop-made : goal.invariant-loop-made
invariant-loop-made g l = record {
  shape : l.batch.shape ≡ record { funcs = 4; users = 1; cpus = 1; tasks = 1; tramps = 2 };
  made : l.batch.made ≡ l.made-counter;
}
