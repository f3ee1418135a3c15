use Rattle.std.proofs.Common.{arith}
use Rattle.trace_views.proofs.EnabledLines.{part-after}
use Rattle.trace_views.proofs.enabled.push_part.Goals as goal

pub returns-in_ok-push : goal.returns-in_ok-push
returns-in_ok-push c = λ job. rw c.in_ok-push.ensures.items (part-after job c.args.lines.now.items c.args.line (omega arith))
