use Rattle.std.proofs.Common.{◌∙◌, sym, ap}
use Rattle.trace_views.specs.RingLines.{rings_line_text}
use Rattle.trace_views.specs.Words.{lines_text}
use Rattle.trace_views.proofs.LineTexts.{line-after}
use Rattle.trace_views.proofs.Results.{on_ok_if}
use Rattle.trace_views.proofs.rings.push_line.Goals as goal

pub returns : goal.returns
returns c =
    on_ok_if c.map_err.result
    (λ done job. ap (lines_text (rings_line_text job)) (rw (sym c.map_err.ensures.variant ∙ done) at c.push.ensures.items)
    ∙ line-after (rings_line_text job) c.args.lines.now.items c.args.line)
