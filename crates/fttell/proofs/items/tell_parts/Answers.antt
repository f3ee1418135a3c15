use Rattle.std.proofs.Common.{subst, sym}
use Rattle.script_jobs.proofs.Names.{accepted_named}
use Rattle.judge_app.proofs.LogJobs.{named-led}
use Rattle.trace_lines.specs.LogItems.{IsNamedApart}
use Rattle.judge_app.specs.Reply.{of_refusal as replies}
use Rattle.fttell.specs.ToldText.{of_refusal}
use Rattle.fttell.proofs.Tellings.{is-refusal, when-refused}
use Rattle.fttell.proofs.items.tell_parts.Goals as goal

pub tell_log-requires-clause-named : goal.tell_log-requires-clause-named
tell_log-requires-clause-named g c =
    subst IsNamedApart (sym c.in-Ok-led_by.ensures) (named-led c.args.parts.now.log.now c.in-Ok.job (accepted_named c.args.parts.now.script.now c.in-Ok.job c.in-Ok.ensures.job))

pub returns-in-Ok-led_by : goal.returns-in-Ok-led_by
returns-in-Ok-led_by g c = λ input cut. c.tell_log.ensures input c.in-Ok.job cut c.in-Ok.ensures.job c.in-Ok-led_by.ensures

pub returns-in-Err : goal.returns-in-Err
returns-in-Err g c = λ input cut answered.
    let told = c.refuse.ensures answered in
    let parts = c.args.parts.now in
    let refusal = is-refusal parts.script.now c.in-Err.fault c.in-Err.ensures.refused told.1 in
    (_, when-refused input _ told.0 (of_refusal parts.script.now parts.log.now parts.first cut _ (replies parts.script.now parts.log.now parts.first cut c.in-Err.fault refusal)), told.2)
