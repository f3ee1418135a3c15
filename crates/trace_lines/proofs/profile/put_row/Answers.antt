use Rattle.std.proofs.Common.{◌∙◌}
use Rattle.ft_io.proofs.PieceLaws.{puts-then, puts-equal}
use Rattle.trace_views.specs.ProfileText.{row_line}
use Rattle.trace_lines.proofs.profile.put_row.Goals as goal

pub returns : goal.returns
unfolding row_line
returns g c = puts-then (puts-equal (c.as_bytes.ensures.value ∙ c.function.ensures) c.put.ensures)
    (puts-then c.put-2.ensures (puts-then c.put_number.ensures (puts-then c.put-3.ensures (puts-then c.put_u64.ensures c.put-4.ensures))))
