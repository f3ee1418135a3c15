use Rattle.std.proofs.Common.{take}
use Rattle.std.specs.List.Sorted.{IsNonDecreasingBy}
use Rattle.module_coverage.proofs.change.are_in_order.Given as goal

abbrev pub invariant-loop-i : goal.invariant-loop-i
invariant-loop-i l = IsNonDecreasingBy (λ change. change.at) (take l.i l.changes)
