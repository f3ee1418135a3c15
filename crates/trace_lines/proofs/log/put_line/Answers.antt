use Rattle.ft_io.proofs.PieceLaws.{puts-then, puts-equal}
use Rattle.trace_lines.proofs.LogLines.{log_line-said}
use Rattle.trace_lines.proofs.log.put_line.Goals as goal

pub returns : goal.returns
returns g c = puts-equal (log_line-said (g.N.Named.job c.args.names.now) c.args.place c.args.item.now) (puts-then c.put_number.ensures (puts-then c.put_item.ensures c.put.ensures))
