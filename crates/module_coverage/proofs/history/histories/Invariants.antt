use Rattle.std.proofs.Common.{◌≡◌, ◌<◌, ℕ, [], length, take, get_or, filter}
use Rattle.module_coverage.specs.Plan.{is_of}
use Rattle.module_coverage.specs.Histories.{lists}
use Rattle.module_coverage.proofs.history.histories.Given as goal

abbrev pub invariant-loop-change : goal.invariant-loop-change
invariant-loop-change l = record {
  count : length (lists l.histories.items) ≡ l.count;
  changes : (m : ℕ) → m < l.count → get_or (lists l.histories.items) m [] ≡ filter (is_of m) (take l.change-index l.story);
}
