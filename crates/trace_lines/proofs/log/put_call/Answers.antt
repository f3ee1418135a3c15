use Rattle.ft_io.proofs.PieceLaws.{puts-then, puts-equal}
use Rattle.std.proofs.Common.{ap}
use Rattle.std.specs.Fmt.{decimal}
use Rattle.trace_lines.proofs.log.put_call.Goals as goal

pub returns : goal.returns
returns g c = puts-then (puts-equal (ap decimal c.task.ensures.pid) c.put_number.ensures) (puts-then c.put.ensures c.put_number-2.ensures)
