use Rattle.std.proofs.Common.{◌+◌, sym, subst, take, arith}
use Rattle.std.proofs.lemmas.List.{take_all}
use Rattle.script_waits.specs.Greedy.{IsLeast}
use Rattle.module_coverage.proofs.Least.{IsLineAmong, least-span}
use Rattle.module_coverage.proofs.uncovered.lowest.Goals as goal

pub loop-span-preserved : goal.loop-span-preserved
loop-span-preserved c = λ plan keeps.
    subst (IsLeast (IsLineAmong plan (take (c.loop-span.span-index + 1) c.args.spans.now))) (sym c.lower-low.ensures)
    (least-span plan c.args.spans.now c.loop-span.span-index _ c.loop-span.low c.uncovered_line.result c.loop-span-test.true (c.loop-span.invariant plan keeps) (c.uncovered_line.ensures plan keeps))

pub returns : goal.returns
returns c = λ plan keeps.
    subst (λ spans. IsLeast (IsLineAmong plan spans) c.loop-span.low) (take_all c.loop-span.span-index c.args.spans.now (omega arith)) (c.loop-span.invariant plan keeps)
