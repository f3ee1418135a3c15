use Rattle.std.proofs.Common.{codes}
use Rattle.ft_io.proofs.PieceLaws.{puts-none, puts-then, puts-equal}
use Rattle.told_items.proofs.FieldTexts.{text-is}
use Rattle.told_items.proofs.fields.put_answer.Goals as goal

pub returns-in-Busy : goal.returns-in-Busy
returns-in-Busy g c = rw c.in-Busy.is (puts-then c.put-in-Busy.ensures (puts-then (puts-equal (text-is (codes ", \"function\": \"") c.function.ensures) c.put_text.ensures)
    (puts-then (puts-equal (text-is (codes ", \"user\": \"") c.user.ensures) c.put_text-in-Busy.ensures) (puts-none _ _))))

pub returns-in-Accepted : goal.returns-in-Accepted
returns-in-Accepted g c = rw c.in-Accepted.is c.put.ensures

pub returns-in-Already : goal.returns-in-Already
returns-in-Already g c = rw c.in-Already.is c.put-in-Already.ensures

pub returns-in-NotThere : goal.returns-in-NotThere
returns-in-NotThere g c = rw c.in-NotThere.is c.put-in-NotThere.ensures

pub returns-in-Invalid : goal.returns-in-Invalid
returns-in-Invalid g c = rw c.in-Invalid.is c.put-in-Invalid.ensures

pub returns-in-NoMatch : goal.returns-in-NoMatch
returns-in-NoMatch g c = rw c.in-NoMatch.is c.put-in-NoMatch.ensures
