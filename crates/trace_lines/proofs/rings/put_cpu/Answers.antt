use Rattle.ft_io.proofs.PieceLaws.{puts-then}
use Rattle.trace_views.specs.RingsText.{cpu_line}
use Rattle.trace_lines.proofs.rings.put_cpu.Goals as goal

pub returns : goal.returns
unfolding cpu_line
returns g c = puts-then c.put.ensures (puts-then c.put_number.ensures (puts-then c.put-2.ensures (puts-then c.put_number-2.ensures
    (puts-then c.put-3.ensures (puts-then c.put_number-3.ensures c.put-4.ensures)))))
