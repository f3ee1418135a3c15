use Rattle.std.proofs.Common.{◌∙◌}
use Rattle.ft_io.proofs.PieceLaws.{puts-then, puts-equal}
use Rattle.trace_lines.proofs.function.put_call.Goals as goal

pub returns : goal.returns
returns g c =
    puts-then (puts-equal (c.as_bytes.ensures.value ∙ c.function.ensures) c.put.ensures)
    (puts-then c.put-2.ensures
    (puts-then (puts-equal (c.as_bytes-2.ensures.value ∙ c.parent_name.ensures) c.put-3.ensures)
    (puts-then c.put-4.ensures
    (puts-then (puts-equal (c.as_bytes-3.ensures.value ∙ c.user.ensures) c.put-5.ensures) c.put-6.ensures))))
