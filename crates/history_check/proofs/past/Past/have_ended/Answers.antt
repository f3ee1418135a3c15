use Rattle.std.proofs.Common.{get_or, length, refl, ap, ◌∙◌, arith}
use Rattle.std.proofs.lemmas.Option.{slice_get_within}
use Rattle.history_check.proofs.JudgeRuns.{ended-more}
use Rattle.history_check.proofs.past.Past.have_ended.Goals as goal

pub loop-task-preserved : goal.loop-task-preserved
loop-task-preserved c =
    let xs = c.args.self.now.tasks.items in
    let i = c.loop-task.task-index in
    let y = c.task-item.result in
    let those = c.loop-task.invariant.those in
    let e = ap length those in
    let lt = c.loop-task-test.true in
    record {
      those = those;
      ended = ended-more c.args.self.now.done xs i y (omega (arith, e, lt)) (c.task-item.is ∙ ap (λ zs. get_or zs i y) those) (c.has_ended.ensures.0 c.if-not-has_ended.false) c.loop-task.invariant.ended;
    }

pub returns : goal.returns
returns c =
    let e = ap length c.loop-task.invariant.those in
    let over = c.loop-task-test.false in (
      λ h t x at. c.loop-task.invariant.ended t x (let lt = slice_get_within c.args.self.now.tasks.items t x at in omega (arith, lt, e, over)) at,
      λ h. refl,
    )
