use Rattle.std.proofs.Common.{◌∙◌}
use Rattle.ft_io.proofs.PieceLaws.{puts-then, puts-equal}
use Rattle.trace_lines.proofs.log.put_visit.Goals as goal

pub returns : goal.returns
returns g c = puts-then c.put.ensures (puts-then c.put_known.ensures (puts-then c.put-2.ensures (puts-equal (c.as_bytes.ensures.value ∙ c.user.ensures) c.put-3.ensures)))
