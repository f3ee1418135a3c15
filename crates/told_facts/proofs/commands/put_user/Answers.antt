use Rattle.std.proofs.Common.{codes}
use Rattle.ft_io.proofs.PieceLaws.{puts-then, puts-equal}
use Rattle.told_items.proofs.FieldTexts.{text-is}
use Rattle.told_facts.proofs.commands.put_user.Goals as goal

pub returns-in-Some : goal.returns-in-Some
returns-in-Some g c = rw c.in-Some.is (puts-equal (text-is (codes ", \"user\": \"") c.user.ensures) c.put_text.ensures)

pub returns-in-None : goal.returns-in-None
returns-in-None g c = rw c.in-None.is c.put.ensures
