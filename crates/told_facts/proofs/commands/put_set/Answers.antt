use Rattle.ft_io.proofs.PieceLaws.{puts-then}
use Rattle.told_facts.proofs.commands.put_set.Goals as goal

pub returns : goal.returns
returns g c = puts-then c.put.ensures (puts-then c.put_members.ensures c.put-2.ensures)
