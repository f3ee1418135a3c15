use Rattle.ft_io.proofs.PieceLaws.{puts-then, puts-equal}
use Rattle.std.specs.Fmt.{decimal}
use Rattle.trace_lines.proofs.InColumns.{right-said}
use Rattle.trace_lines.proofs.columns.put_right.Goals as goal

pub returns : goal.returns
returns g c = puts-equal (right-said c.args.width c.saturating_sub.result c.decimal_digits-number.result.now (decimal c.args.n) (c.saturating_sub.ensures) c.decimal_digits-number.ensures c.requires) (puts-then c.put.ensures c.put-2.ensures)
