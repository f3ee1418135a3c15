use Rattle.std.proofs.Common.{◌∙◌}
use Rattle.ft_io.proofs.PieceLaws.{puts-then, puts-equal}
use Rattle.trace_views.specs.Words.{user_line}
use Rattle.trace_lines.proofs.lines.put_user.Goals as goal

pub returns : goal.returns
unfolding user_line
returns g c = puts-then c.put.ensures (puts-then (puts-equal (c.as_bytes.ensures.value ∙ c.user.ensures) c.put-2.ensures) c.put-3.ensures)
