use Rattle.std.proofs.Common.{ap, ◌∙◌}
use Rattle.judge_app.specs.Reply.{IsLong, refusal_text}
use Rattle.judge_app.proofs.Replies.{cut-fits, missing, ok-anyway, ok-then, through, uncut-fits}
use Rattle.judge_app.proofs.reply.answer.Goals as goal

pub returns-in-Err-clause-is : goal.returns-in-Err-clause-is
returns-in-Err-clause-is c =
    through _ c.refused.result
    (ok-then
    (λ r e. missing c.args.input.now c.in-Err.next c.in-Err.ensures.none r.status r.text.items e.0 (e.1 ∙ ap refusal_text c.syntax_at.ensures))
    c.refused.result c.refused.ensures)
    c.or_memory.result c.or_memory.ensures.is

pub returns-in-Ok-clause-fits : goal.returns-in-Ok-clause-fits
returns-in-Ok-clause-fits c =
    ok-then (λ r le. cut-fits c.args.input.now c.in-Ok.parts.script.now c.in-Ok.parts.log.now c.in-Ok.parts.first c.in-Ok.ensures.some le)
    c.reply_below.result c.reply_below.ensures.fits

pub returns-in-Err-clause-fits : goal.returns-in-Err-clause-fits
returns-in-Err-clause-fits c = ok-anyway (IsLong c.args.input.now → ⊥) (uncut-fits c.args.input.now c.in-Err.next c.in-Err.ensures.none) c.or_memory.result
