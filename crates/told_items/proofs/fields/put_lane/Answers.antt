use Rattle.ft_io.proofs.PieceLaws.{puts-none, puts-then}
use Rattle.told_items.proofs.fields.put_lane.Goals as goal

pub returns-in-Some : goal.returns-in-Some
returns-in-Some g c = rw c.in-Some.is (puts-then c.put_named.ensures (puts-none _ _))

pub returns-in_default : goal.returns-in_default
returns-in_default g c = rw c.in_default.is (puts-none _ _)
