use Rattle.std.proofs.Common.{subst, sym}
use Rattle.trace_lines.specs.LogItems.{IsNamedApart}
use Rattle.judge_app.proofs.LogJobs.{named-led}
use Rattle.judge_app.proofs.reply.reply_led.Goals as goal

pub reply_for-requires-clause-named : goal.reply_for-requires-clause-named
reply_for-requires-clause-named c = subst IsNamedApart (sym c.in_ok-led.ensures) (named-led c.args.parts.now.log.now c.args.job c.requires.named)
