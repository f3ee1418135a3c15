use Rattle.ft_io.proofs.PieceLaws.{puts-then}
use Rattle.trace_lines.proofs.log.put_begin.Goals as goal

pub returns-in-Some : goal.returns-in-Some
returns-in-Some g c = rw c.in-Some.is (puts-then c.put.ensures (puts-then c.put_number.ensures (puts-then c.put-in-Some.ensures c.put_number-in-Some.ensures)))

pub returns-in_default : goal.returns-in_default
returns-in_default g c = rw c.in_default.is (puts-then c.put.ensures c.put_number.ensures)
