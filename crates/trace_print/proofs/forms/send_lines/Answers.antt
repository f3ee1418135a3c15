use Rattle.trace_print.proofs.FirstText.{first-under_way}
use Rattle.trace_print.proofs.forms.send_lines.Goals as goal

pub returns-clause-all : goal.returns-clause-all
returns-clause-all g c = c.finish.ensures.all _ _ _ (first-under_way c.in-Ok.ensures c.put_lines.ensures)

pub returns-clause-front : goal.returns-clause-front
returns-clause-front g c = λ e. c.finish.ensures.front _ _ _ (first-under_way c.in-Ok.ensures c.put_lines.ensures) e

pub returns-clause-fault : goal.returns-clause-fault
returns-clause-fault g c = λ e. c.finish.ensures.fault _ _ _ (first-under_way c.in-Ok.ensures c.put_lines.ensures) e

pub returns-clause-faults : goal.returns-clause-faults
returns-clause-faults g c = c.finish.ensures.later _ _ _ (first-under_way c.in-Ok.ensures c.put_lines.ensures)
