use Rattle.std.proofs.Common.{◌∙◌, arith}
use Rattle.ft_io.proofs.PieceLaws.{puts-equal}
use Rattle.trace_print.proofs.forms.finish.Goals as goal

pub returns-in-Ok-clause-all : goal.returns-in-Ok-clause-all
returns-in-Ok-clause-all g c = λ text begin before way.
    c.in-Ok.ensures.ends.all _ _ _ ((puts-equal (c.as_bytes.ensures.value ∙ c.last_line.ensures) c.put.ensures).adds text begin before way)

pub returns-in-Err-clause-front : goal.returns-in-Err-clause-front
returns-in-Err-clause-front g c = λ text begin before way _.
    c.in-Err.ensures.ends.front _ _ _ ((puts-equal (c.as_bytes.ensures.value ∙ c.last_line.ensures) c.put.ensures).adds text begin before way)

pub returns-in-Err-clause-fault : goal.returns-in-Err-clause-fault
returns-in-Err-clause-fault g c = λ text begin before way _.
    c.in-Err.ensures.ends.fault _ _ _ ((puts-equal (c.as_bytes.ensures.value ∙ c.last_line.ensures) c.put.ensures).adds text begin before way)

pub returns-in-Ok-clause-later : goal.returns-in-Ok-clause-later
returns-in-Ok-clause-later g c = λ text begin before way.
    (let u = (puts-equal (c.as_bytes.ensures.value ∙ c.last_line.ensures) c.put.ensures).adds text begin before way in
    omega (arith, u.later, c.finish.ensures.faults))

pub returns-in-Err-clause-later : goal.returns-in-Err-clause-later
returns-in-Err-clause-later g c = λ text begin before way.
    (let u = (puts-equal (c.as_bytes.ensures.value ∙ c.last_line.ensures) c.put.ensures).adds text begin before way in
    omega (arith, u.later, c.finish.ensures.faults))
