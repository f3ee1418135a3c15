use Rattle.ft_io.proofs.PieceLaws.{puts-then}
use Rattle.told_items.proofs.fields.put_one_open.Goals as goal

pub returns : goal.returns
returns g c = puts-then c.put.ensures (puts-then c.put_call.ensures (puts-then c.put-2.ensures (puts-then c.put_places.ensures c.put-3.ensures)))
