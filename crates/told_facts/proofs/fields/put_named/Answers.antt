use Rattle.ft_io.proofs.PieceLaws.{puts-then}
use Rattle.told_facts.proofs.fields.put_named.Goals as goal

pub returns : goal.returns
returns g c = puts-then c.put.ensures c.put_number.ensures
