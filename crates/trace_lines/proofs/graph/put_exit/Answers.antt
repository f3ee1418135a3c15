use Rattle.std.proofs.Common.{◌∙◌}
use Rattle.ft_io.proofs.PieceLaws.{puts-then, puts-equal}
use Rattle.trace_views.specs.Words.{function_word}
use Rattle.trace_lines.proofs.GraphFronts.{exit-said}
use Rattle.trace_lines.proofs.graph.put_exit.Goals as goal

pub returns : goal.returns
returns g c =
    puts-equal (exit-said (g.N.Named.job c.args.names.now) c.args.shown.task.0 c.args.shown.level (function_word (g.N.Named.job c.args.names.now) c.args.shown.func.0) c.args.time)
    (puts-then c.put_front.ensures (puts-then c.put.ensures (puts-then (puts-equal (c.as_bytes.ensures.value ∙ c.function.ensures) c.put-2.ensures) c.put-3.ensures)))
