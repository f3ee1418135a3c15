use Rattle.ft_io.proofs.PieceLaws.{puts-then, puts-equal}
use Rattle.trace_lines.proofs.enabled.put_ran.Goals as goal

pub returns : goal.returns
returns g c = puts-equal c.ran_parts.ensures (puts-then (puts-equal c.as_bytes.ensures.value c.put.ensures) (puts-equal c.as_bytes-2.ensures.value c.put-2.ensures))
