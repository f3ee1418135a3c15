use Rattle.ft_io.proofs.PieceLaws.{puts-then}
use Rattle.trace_lines.proofs.calls.CallTexts.put_new.Goals as goal

pub returns-else-pid-lt-PIDS : goal.returns-else-pid-lt-PIDS
returns-else-pid-lt-PIDS g c = puts-then c.put_number.ensures (puts-then c.put.ensures c.put_number-else-pid-lt-PIDS.ensures)
