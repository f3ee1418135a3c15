use Rattle.trace_rings.proofs.Folds.{new-as}
use Rattle.trace_rings.proofs.tracer.Tracer.new.Goals as goal

pub returns : goal.returns
returns c =
    new-as c.args.plan.now _ _ c.in_ok-rings.rings.items _ _ _ _ _ c.tracing.ensures c.in_ok-hits.ensures c.trigger_count.ensures
    c.in_ok-rings.ensures c.cpus.ensures
    c.in_ok-fired.ensures c.trigger_count-2.ensures _ c.ring-2.ensures
