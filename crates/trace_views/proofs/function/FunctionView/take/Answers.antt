use Rattle.std.proofs.Common.{arith}
use Rattle.trace_views.proofs.FunctionTakes.{taken-in}
use Rattle.trace_views.proofs.function.FunctionView.take.Goals as goal

pub returns : goal.returns
returns c = λ job past told legal.
    taken-in job past c.args.self.now told c.args.item.now _
    (c.follow.ensures job past (rw c.push_part.ensures.rest.1 told.calls) legal)
    (let e = c.push_part.ensures.rest.2 in omega (arith, e)) c.push_part.ensures.rest.0
    (c.push_part.ensures.text job past told legal)
