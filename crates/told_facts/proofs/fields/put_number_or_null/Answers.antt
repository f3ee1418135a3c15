use Rattle.ft_io.proofs.PieceLaws.{puts-then}
use Rattle.told_facts.proofs.fields.put_number_or_null.Goals as goal

pub returns-in-Some : goal.returns-in-Some
returns-in-Some g c = rw c.in-Some.is (puts-then c.put.ensures c.put_number.ensures)

pub returns-in-None : goal.returns-in-None
returns-in-None g c = rw c.in-None.is (puts-then c.put.ensures c.put-in-None.ensures)
