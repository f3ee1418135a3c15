use Rattle.std.proofs.Common.{◌≡◌, ◌<◌, [], length, sym, ap, ◌∙◌, arith}
use Rattle.ring_rules.specs.Hits.{quota, trigger}
use Rattle.ring_rules.specs.Legal.{fired_at}
use Rattle.ring_rules.proofs.Lists.{get-some}
use Rattle.trace_views.specs.RingsText.{trigger_text}
use Rattle.trace_views.proofs.NumberedTexts.{numbered_texts-more, numbered_texts-all}
use Rattle.trace_views.proofs.ring_view.push_fired.Goals as goal

pub loop-trigger-preserved : goal.loop-trigger-preserved
loop-trigger-preserved c = λ job fired by.
    let i = c.loop-trigger.trigger in
    let within = c.loop-trigger-test.true in
    let count = c.trigger_count-trigger-end.ensures in
    let many = by.0 in
    let lt : i < length c.args.plan.now.triggers = omega (arith, within, count) in
    let same : c.most_fires-fired.result ≡ length (fired_at fired i) =
    c.most_fires-fired.ensures ∙ ap (quota (trigger c.args.plan.now i).limit) c.hits.ensures ∙ sym (by.1 i lt) in
    rw (c.in_ok-push_line.ensures job, same)
    (numbered_texts-more trigger_text fired _ i (fired_at fired i) _ (get-some fired i [] (omega (arith, lt, many))) (c.loop-trigger.invariant job fired by))

pub returns : goal.returns
returns c = λ job fired by.
    let past = c.loop-trigger-test.false in
    let count = c.trigger_count-trigger-end.ensures in
    let many = by.0 in
    numbered_texts-all trigger_text fired _ c.loop-trigger.trigger _ (omega (arith, past, count, many)) (c.loop-trigger.invariant job fired by)
