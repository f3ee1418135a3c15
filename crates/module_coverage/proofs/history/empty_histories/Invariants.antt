use Rattle.std.proofs.Common.{◌≡◌, [], replicate}
use Rattle.module_coverage.specs.Histories.{lists}
use Rattle.module_coverage.proofs.history.empty_histories.Given as goal

abbrev pub invariant-loop : goal.invariant-loop
invariant-loop l = lists l.histories.items ≡ replicate l.counter []
