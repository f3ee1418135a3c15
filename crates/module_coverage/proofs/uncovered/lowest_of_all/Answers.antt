use Rattle.std.proofs.Common.{◌≡◌, ◌∙◌, ◌+◌, map, sym, ap, subst, arith, [], get_or, List}
use Rattle.std.specs.Prelude.{◌↔◌, Contains}
use Rattle.script_waits.specs.declared.script.LinedAct.{LinedAct}
use Rattle.script_waits.specs.declared.script.LinedTask.{LinedTask as KeptTask}
use Rattle.script_waits.specs.Tasks.{lined_task, tracks_of}
use Rattle.script_waits.specs.Greedy.{IsLeast}
use Rattle.script_waits.proofs.Runs.{track-at, length-tracks}
use Rattle.module_coverage.specs.declared.span.Span.{Span}
use Rattle.module_coverage.specs.Spans.{IsSpan}
use Rattle.module_coverage.proofs.Least.{IsLineTo, least-task, least-end}
use Rattle.module_coverage.proofs.uncovered.lowest_of_all.Goals as goal

pub loop-t-preserved : goal.loop-t-preserved
loop-t-preserved c = λ plan keeps.
    let tracks = tracks_of (map lined_task c.args.tasks.now) in
    let control = c.args.control.now in
    let track : get_or tracks c.loop-t.t [] ≡ c.as_slice.result.now = track-at c.args.tasks.now c.loop-t.t c.index-tasks-t.result c.loop-t-test.true c.index-tasks-t.is ∙ ap (λ (z : KeptTask). z.acts.items) c.index-tasks-t.is ∙ sym c.as_slice.ensures.value in
    let spans = subst (λ (xs : List Span). (s : Span) → Contains xs s ↔ IsSpan control c.loop-t.t c.as_slice.result.now s) (sym c.as_slice-in-loop-t.ensures.value) c.in_ok-spans.ensures in
    let all = subst (λ (xs : List LinedAct). (s : Span) → Contains c.as_slice-in-loop-t.result.now s ↔ IsSpan control c.loop-t.t xs s) (sym track) spans in
    subst (IsLeast (IsLineTo tracks control plan (c.loop-t.t + 1))) (sym c.lower-low.ensures)
    (least-task tracks control plan c.loop-t.t c.as_slice-in-loop-t.result.now c.loop-t.low c.lowest.result all (c.loop-t.invariant plan keeps) (c.lowest.ensures plan keeps))

pub returns : goal.returns
returns c = λ plan keeps.
    least-end (tracks_of (map lined_task c.args.tasks.now)) c.args.control.now plan c.loop-t.t c.loop-t.low (omega (arith, length-tracks c.args.tasks.now)) (c.loop-t.invariant plan keeps)
