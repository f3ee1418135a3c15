use Rattle.std.proofs.Common.{◌≡◌, ◌∙◌, map, sym, ap, subst, arith, [], get_or, slice_get, option_map, ◌+◌}
use Rattle.script_waits.specs.Tasks.{lined_task, tracks_of}
use Rattle.script_waits.specs.declared.script.LinedAct.{LinedAct}
use Rattle.script_waits.specs.declared.script.LinedTask.{LinedTask as KeptTask}
use Rattle.script_waits.specs.Greedy.{Passed, IsLeast, lower_of, next_act}
use Rattle.script_waits.proofs.Runs.{track-at, length-tracks}
use Rattle.script_waits.proofs.Least.{WaitsTo, least-start, least-more, least-end}
use Rattle.script_waits.proofs.waiting.lowest.Goals as goal

pub loop-t-init : goal.loop-t-init
loop-t-init c = rw c.control_line-low.ensures (least-start (tracks_of (map lined_task c.args.tasks.now)) c.args.control.now (record { acts = c.args.at.now; lines = c.args.lines }))

pub loop-t-preserved : goal.loop-t-preserved
loop-t-preserved c =
    let p : Passed = record { acts = c.args.at.now; lines = c.args.lines } in
    let tracks = tracks_of (map lined_task c.args.tasks.now) in
    let track : get_or tracks c.loop-t.t [] ≡ c.as_slice.result.now = track-at c.args.tasks.now c.loop-t.t c.index-tasks-t.result c.loop-t-test.true c.index-tasks-t.is ∙ ap (λ (z : KeptTask). z.acts.items) c.index-tasks-t.is ∙ sym c.as_slice.ensures.value in
    let line : option_map (λ (a : LinedAct). a.line) (next_act tracks c.args.control.now p c.loop-t.t) ≡ c.act_line.result = ap (λ xs. option_map (λ (a : LinedAct). a.line) (slice_get xs (get_or c.args.at.now c.loop-t.t 0))) track ∙ sym c.act_line.ensures in
    let low : lower_of c.loop-t.low (option_map (λ (a : LinedAct). a.line) (next_act tracks c.args.control.now p c.loop-t.t)) ≡ c.lower-low.result = ap (lower_of c.loop-t.low) line ∙ sym c.lower-low.ensures in
    subst (IsLeast (WaitsTo tracks c.args.control.now p (c.loop-t.t + 1))) low (least-more tracks c.args.control.now p c.loop-t.t c.loop-t.low c.loop-t.invariant)

pub returns : goal.returns
returns c = least-end (tracks_of (map lined_task c.args.tasks.now)) c.args.control.now (record { acts = c.args.at.now; lines = c.args.lines }) c.loop-t.t c.loop-t.low (omega (arith, length-tracks c.args.tasks.now)) c.loop-t.invariant
