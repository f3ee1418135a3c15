use Rattle.ft_io.proofs.PieceLaws.{puts-then}
use Rattle.told_items.proofs.fields.put_ran.Goals as goal

pub returns-in-Own : goal.returns-in-Own
returns-in-Own g c = rw c.in-Own.is (puts-then c.put-in-Own.ensures c.put_user.ensures)

pub returns-in-Nop : goal.returns-in-Nop
returns-in-Nop g c = rw c.in-Nop.is c.put.ensures

pub returns-in-List : goal.returns-in-List
returns-in-List g c = rw c.in-List.is c.put-in-List.ensures
