use Rattle.std.proofs.Common.{[], arith}
use Rattle.ring_rules.specs.Legal.{fired_at}
use Rattle.ring_rules.proofs.Lists.{get-some}
use Rattle.trace_views.specs.RingsText.{trigger_text}
use Rattle.trace_views.proofs.NumberedTexts.{numbered_texts-more, numbered_texts-all}
use Rattle.trace_views.proofs.rings.push_triggers.Goals as goal

pub loop-trigger-preserved : goal.loop-trigger-preserved
loop-trigger-preserved c = λ job.
    let fired = c.args.rings.now.fired in
    let i = c.loop-trigger.trigger in
    let within = c.loop-trigger-test.true in
    let count = c.triggers-trigger-end.ensures in
    rw (c.in_ok-push_line.ensures job, c.fired-fired.ensures)
    (numbered_texts-more trigger_text fired _ i (fired_at fired i) _ (get-some fired i [] (omega (arith, within, count))) (c.loop-trigger.invariant job))

pub returns : goal.returns
returns c = λ job. numbered_texts-all trigger_text c.args.rings.now.fired _ c.loop-trigger.trigger _ (let count = c.triggers-trigger-end.ensures in omega (arith, count)) (c.loop-trigger.invariant job)
