use Rattle.std.proofs.Common.{sym, ◌∙◌}
use Rattle.std.specs.Result.{is_ok}
use Rattle.trace_views.proofs.LineLaws.{line-pushed}
use Rattle.trace_views.proofs.Results.{on_ok_if}
use Rattle.trace_views.proofs.graph.add_line.Goals as goal

pub returns : goal.returns
returns c =
    on_ok_if c.map_err.result
    (λ done job. line-pushed job c.args.lines.now.items c.push.new.self.items c.args.line (is_ok c.push.result) (sym c.map_err.ensures.variant ∙ done) c.push.ensures.items)
