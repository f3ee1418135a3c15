use Rattle.ft_job.specs.Parts.{parts_of}
use Rattle.ft_job.proofs.Ordered.{made-is, made-within}
use Rattle.ft_job.proofs.job.Job.in_order.Goals as goal

pub invariant_of-result : goal.invariant_of-result
invariant_of-result c =
    made-within (parts_of c.self.inside.parts) c.args.order.now c.args.self c.self.view_is c.in-Ok.ctls.items c.in-Ok.lanes.items
    c.in-Ok.ensures.lines c.in-Ok.ensures.lanes c.self.invariant c.requires.led

pub returns-in-Ok-clause-ok : goal.returns-in-Ok-clause-ok
returns-in-Ok-clause-ok c =
    made-is (parts_of c.self.inside.parts) c.args.order.now c.args.self c.self.view_is c.in-Ok.ctls.items c.in-Ok.lanes.items
    c.in-Ok.ensures.lines c.in-Ok.ensures.lanes
