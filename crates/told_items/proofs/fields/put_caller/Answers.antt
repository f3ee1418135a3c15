use Rattle.ft_io.proofs.PieceLaws.{puts-then}
use Rattle.told_items.proofs.fields.put_caller.Goals as goal

pub returns-in-Some : goal.returns-in-Some
returns-in-Some g c = rw c.in-Some.is (puts-then c.put-in-Some.ensures (puts-then c.put_call.ensures c.put-in-Some-2.ensures))

pub returns-in-None : goal.returns-in-None
returns-in-None g c = rw c.in-None.is c.put.ensures
