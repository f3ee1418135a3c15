use Rattle.ft_io.proofs.PieceLaws.{puts-then}
use Rattle.trace_views.specs.RingsText.{trigger_line}
use Rattle.trace_lines.proofs.rings.put_trigger.Goals as goal

pub returns : goal.returns
unfolding trigger_line
returns g c = puts-then c.put.ensures (puts-then c.put_number.ensures (puts-then c.put-2.ensures (puts-then c.put_number-2.ensures c.put-3.ensures)))
