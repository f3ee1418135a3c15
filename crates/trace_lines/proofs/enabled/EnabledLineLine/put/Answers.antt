use Rattle.std.proofs.Common.{◌∙◌}
use Rattle.ft_io.proofs.PieceLaws.{puts-then, puts-equal}
use Rattle.trace_views.specs.EnabledText.{enabled_line}
use Rattle.trace_lines.proofs.enabled.EnabledLineLine.put.Goals as goal

pub returns : goal.returns
unfolding enabled_line
returns g c = puts-then (puts-equal (c.as_bytes.ensures.value ∙ c.function.ensures) c.put.ensures)
    (puts-then c.put-2.ensures (puts-then c.put_number.ensures (puts-then c.put-3.ensures
    (puts-then (puts-equal (c.as_bytes-2.ensures.value ∙ c.regs_column.ensures) c.put-4.ensures)
    (puts-then (puts-equal (c.as_bytes-3.ensures.value ∙ c.ipmodify_column.ensures) c.put-5.ensures)
    (puts-then c.put-6.ensures (puts-then c.put_ran.ensures c.put-7.ensures)))))))
