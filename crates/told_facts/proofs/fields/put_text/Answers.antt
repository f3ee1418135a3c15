use Rattle.ft_io.proofs.PieceLaws.{puts-then, puts-equal}
use Rattle.told_facts.proofs.fields.put_text.Goals as goal

pub returns : goal.returns
returns g c = puts-then c.put.ensures (puts-then (puts-equal c.as_bytes.ensures.value c.put-2.ensures) c.put-3.ensures)
