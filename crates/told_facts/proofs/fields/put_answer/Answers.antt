use Rattle.std.proofs.Common.{◌∙◌}
use Rattle.ft_io.proofs.PieceLaws.{puts-then, puts-equal}
use Rattle.told_facts.proofs.fields.put_answer.Goals as goal

pub returns-in-Busy : goal.returns-in-Busy
returns-in-Busy g c = rw c.in-Busy.is (puts-then c.put-in-Busy.ensures (puts-then (puts-equal (c.as_bytes.ensures.value ∙ c.function.ensures) c.put-in-Busy-2.ensures)
    (puts-then c.put-in-Busy-3.ensures (puts-equal (c.as_bytes-in-Busy.ensures.value ∙ c.user.ensures) c.put-in-Busy-4.ensures))))
