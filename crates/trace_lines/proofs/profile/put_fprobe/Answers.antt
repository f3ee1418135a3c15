use Rattle.std.proofs.Common.{◌∙◌}
use Rattle.ft_io.proofs.PieceLaws.{puts-then, puts-equal}
use Rattle.trace_views.specs.ProfileText.{counts_line}
use Rattle.trace_lines.proofs.profile.put_fprobe.Goals as goal

pub returns : goal.returns
unfolding counts_line
returns g c = puts-then c.put.ensures (puts-then (puts-equal (c.as_bytes.ensures.value ∙ c.user.ensures) c.put-2.ensures)
    (puts-then c.put-3.ensures (puts-then c.put_number.ensures (puts-then c.put-4.ensures (puts-then c.put_number-2.ensures c.put-5.ensures)))))
