use Rattle.script_jobs.proofs.Names.{accepted_named}
use Rattle.judge_app.proofs.Replies.{ok-then, script-refused}
use Rattle.judge_app.proofs.reply.reply_to.Goals as goal

pub reply_led-requires-clause-named : goal.reply_led-requires-clause-named
reply_led-requires-clause-named c = accepted_named c.args.parts.now.script.now c.in-Ok.job c.in-Ok.ensures.job

pub returns-in-Err : goal.returns-in-Err
returns-in-Err c = λ input cut.
    ok-then
    (λ r e. script-refused input c.args.parts.now.script.now c.args.parts.now.log.now c.args.parts.now.first cut c.in-Err.fault c.in-Err.ensures.refused e.2
    r.status r.text.items e.0 e.1)
    c.refused.result c.refused.ensures
