use Rattle.std.proofs.Common.{◌≡◌, ◌<◌, ◌≤◌, ℕ, Some}
use Rattle.module_coverage.specs.Plan.{owner_in}
use Rattle.module_coverage.proofs.history.modules_of.Given as goal

abbrev pub invariant-loop-owner : goal.invariant-loop-owner
invariant-loop-owner l = record {
  above : (f m : ℕ) → f < l.owner-index → owner_in l.owners f ≡ Some m → m < l.end;
  least : (k : ℕ) → ((f m : ℕ) → owner_in l.owners f ≡ Some m → m < k) → l.end ≤ k;
}
