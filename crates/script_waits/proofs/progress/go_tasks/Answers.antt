use Rattle.std.proofs.Common.{◌≡◌, ◌≤◌, ◌<◌, ◌∙◌, ℕ, [], length, map, get_or, sym, ap, subst, arith, true, false, slice_get}
use Rattle.script_waits.specs.Tasks.{lined_task, tracks_of}
use Rattle.script_waits.specs.declared.script.LinedTask.{LinedTask as KeptTask}
use Rattle.script_waits.specs.Greedy.{passes_act}
use Rattle.script_waits.proofs.Runs.{track-at, within-more, stops-more, reached-more}
use Rattle.script_waits.proofs.progress.go_tasks.Goals as goal

track_is : (c : goal.After-slice_known-in-loop-t-1) → get_or (tracks_of (map lined_task c.args.tasks.now)) c.loop-t.t [] ≡ c.as_slice.result.now
track_is c = track-at c.args.tasks.now c.loop-t.t c.index-tasks-t.result c.loop-t-test.true c.index-tasks-t.is ∙ ap (λ (z : KeptTask). z.acts.items) c.index-tasks-t.is ∙ sym c.as_slice.ensures.value

pub go_task-requires : goal.go_task-requires
go_task-requires c = subst (λ xs. get_or c.loop-t.at c.loop-t.t 0 ≤ length xs) (track_is c) (c.loop-t.invariant.within c.loop-t.t)

pub loop-t-preserved : goal.loop-t-preserved
loop-t-preserved c =
    let tracks = tracks_of (map lined_task c.args.tasks.now) in
    let inside : c.loop-t.t < length c.loop-t.at = omega (arith, c.loop-t.auto.at, c.requires.lengths, c.loop-t-test.true) in
    let track : get_or tracks c.loop-t.t [] ≡ c.as_slice.result.now = track-at c.args.tasks.now c.loop-t.t c.index-tasks-t.result c.loop-t-test.true c.index-tasks-t.is ∙ ap (λ (z : KeptTask). z.acts.items) c.index-tasks-t.is ∙ sym c.as_slice.ensures.value in
    let bound = subst (λ xs. c.go_task.result ≤ length xs) (sym track) c.go_task.ensures.within in
    let passed = subst (λ xs. (k : ℕ) → get_or c.loop-t.at c.loop-t.t 0 ≤ k → k < c.go_task.result → passes_act c.args.commands (slice_get xs k) ≡ true) (sym track) c.go_task.ensures.passed in
    let stops = subst (λ xs. passes_act c.args.commands (slice_get xs c.go_task.result) ≡ false) (sym track) c.go_task.ensures.stops in
    record {
      within = within-more tracks c.loop-t.at c.loop-t.t c.go_task.result c.args.commands inside c.go_task.ensures.up bound passed stops c.loop-t.invariant.within;
      reached = λ lines n e h. reached-more tracks c.loop-t.at c.loop-t.t c.go_task.result c.args.commands inside c.go_task.ensures.up bound passed stops lines n e (c.loop-t.invariant.reached lines n e h);
      stops = stops-more tracks c.loop-t.at c.loop-t.t c.go_task.result c.args.commands inside c.go_task.ensures.up bound passed stops c.loop-t.invariant.stops;
    }
