use Rattle.trace_views.specs.LogText.{log_text}
use Rattle.trace_print.proofs.forms.write_log.Goals as goal

pub returns-clause-all : goal.returns-clause-all
unfolding log_text
returns-clause-all g c = rw (← c.in-Ok.ensures) c.send_log.ensures.all

pub returns-clause-front : goal.returns-clause-front
unfolding log_text
returns-clause-front g c = rw (← c.in-Ok.ensures) c.send_log.ensures.front
