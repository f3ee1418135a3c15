use Rattle.std.proofs.Common.{◌≡◌, ◌≤◌, ◌<◌, ℕ, true, drop}
use Rattle.std.specs.List.Sorted.{IsNonDecreasingBy}
use Rattle.module_coverage.specs.Plan.{loaded_by}
use Rattle.module_coverage.proofs.history.first_away.Given as goal

abbrev pub invariant-loop-change : goal.invariant-loop-change
invariant-loop-change l = record {
  up : l.from ≤ l.since;
  past : IsNonDecreasingBy (λ change. change.at) l.history → (k : ℕ) → l.from ≤ k → k < l.since → loaded_by k true l.history ≡ true;
  rest : (k : ℕ) → l.since ≤ k → loaded_by k true l.history ≡ loaded_by k l.loaded (drop l.change-index l.history);
}
