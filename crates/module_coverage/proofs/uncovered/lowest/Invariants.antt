use Rattle.std.proofs.Common.{◌≡◌, take}
use Rattle.std.specs.Prelude.{Contains}
use Rattle.script_waits.specs.Greedy.{IsLeast}
use Rattle.module_coverage.specs.declared.span.Span.{Span}
use Rattle.module_coverage.specs.Plan.{ModulePlan}
use Rattle.module_coverage.specs.Histories.{lists, Keeps}
use Rattle.module_coverage.specs.Uncovered.{IsUncovered}
use Rattle.module_coverage.proofs.uncovered.lowest.Given as goal

abbrev pub invariant-loop-span : goal.invariant-loop-span
invariant-loop-span l = (plan : ModulePlan) → Keeps plan l.owners (lists l.histories)
    → IsLeast (λ n. (s : Span) × Contains (take l.span-index l.spans) s × IsUncovered plan s × (n ≡ s.line)) l.low
