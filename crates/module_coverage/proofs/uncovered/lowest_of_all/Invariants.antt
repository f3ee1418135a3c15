use Rattle.std.proofs.Common.{map}
use Rattle.script_waits.specs.Tasks.{lined_task, tracks_of}
use Rattle.script_waits.specs.Greedy.{IsLeast}
use Rattle.module_coverage.specs.Plan.{ModulePlan}
use Rattle.module_coverage.specs.Histories.{lists, Keeps}
use Rattle.module_coverage.proofs.Least.{IsLineTo}
use Rattle.module_coverage.proofs.uncovered.lowest_of_all.Given as goal

abbrev pub invariant-loop-t : goal.invariant-loop-t
invariant-loop-t l = (plan : ModulePlan) → Keeps plan l.owners (lists l.histories)
    → IsLeast (IsLineTo (tracks_of (map lined_task l.tasks)) l.control plan l.t) l.low
