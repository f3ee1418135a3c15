-- The tasks so far are on CPUs that there are.
use Rattle.std.proofs.Common.{ℕ, ◌<◌, get_or}
use Rattle.threads_tests.proofs.tests.plan_with.Given as goal

abbrev pub invariant-loop-c : goal.invariant-loop-c
invariant-loop-c l = (t : ℕ) → get_or l.tasks.items t 0 < l.cpus
