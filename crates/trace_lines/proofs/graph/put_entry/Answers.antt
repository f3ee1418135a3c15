use Rattle.std.proofs.Common.{◌∙◌}
use Rattle.ft_io.proofs.PieceLaws.{puts-then, puts-equal}
use Rattle.trace_views.specs.Words.{function_word}
use Rattle.trace_lines.proofs.GraphFronts.{entry-none, entry-some}
use Rattle.trace_lines.proofs.graph.put_entry.Goals as goal

pub returns-in-None : goal.returns-in-None
returns-in-None g c =
    rw c.in-None.is (puts-equal (entry-none (g.N.Named.job c.args.names.now) c.args.shown.task.0 c.args.shown.level (function_word (g.N.Named.job c.args.names.now) c.args.shown.func.0))
    (puts-then (rw c.in-None.is at c.put_front.ensures) (puts-then (puts-equal (c.as_bytes.ensures.value ∙ c.function.ensures) c.put.ensures) c.put-in-None.ensures)))

pub returns-in-Some : goal.returns-in-Some
returns-in-Some g c =
    rw c.in-Some.is (puts-equal (entry-some (g.N.Named.job c.args.names.now) c.args.shown.task.0 c.args.shown.level (function_word (g.N.Named.job c.args.names.now) c.args.shown.func.0) c.in-Some.field-0)
    (puts-then (rw c.in-Some.is at c.put_front.ensures) (puts-then (puts-equal (c.as_bytes.ensures.value ∙ c.function.ensures) c.put.ensures) c.put-in-Some.ensures)))
