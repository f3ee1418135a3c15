use Rattle.ft_io.proofs.PieceLaws.{puts-then, puts-equal}
use Rattle.trace_lines.proofs.InColumns.{spaces-more}
use Rattle.trace_lines.proofs.columns.put_indent.Goals as goal

pub loop-preserved : goal.loop-preserved
loop-preserved g c = puts-equal (spaces-more c.loop.counter) (puts-then c.loop.invariant c.put.ensures)
