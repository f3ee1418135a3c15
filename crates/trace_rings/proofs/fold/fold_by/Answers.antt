use Rattle.std.proofs.Common.{take, ap, arith}
use Rattle.std.proofs.lemmas.List.{length-take}
use Rattle.trace_rings.specs.Traced.{Traced}
use Rattle.trace_rings.proofs.Folds.{few-fired, fold-more, for-start}
use Rattle.trace_rings.proofs.fold.fold_by.Goals as goal

pub take-requires-clause-plan : goal.take-requires-clause-plan
take-requires-clause-plan c = for-start c.args.plan.now (take c.loop-p.p c.args.history.now.items) _ c.loop-p.tracer c.loop-p.invariant

pub loop-p-preserved : goal.loop-p-preserved
loop-p-preserved c =
    fold-more c.args.plan.now c.args.history.now.items c.loop-p.p _ c.loop-p.tracer c.take.new.self c.item.ensures c.loop-p.invariant
    c.in_ok-take.ensures

pub finish-requires-clause-plan : goal.finish-requires-clause-plan
finish-requires-clause-plan c = for-start c.args.plan.now (take c.loop-p.p c.args.history.now.items) _ c.loop-p.tracer c.loop-p.invariant

pub finish-requires-clause-few : goal.finish-requires-clause-few
finish-requires-clause-few c =
    let items = take c.loop-p.p c.args.history.now.items in
    few-fired c.args.plan.now items c.loop-p.tracer.so_far.rings (ap (λ (t : Traced). t.so_far.rings) c.loop-p.invariant)
    (let l = length-take c.loop-p.p c.args.history.now.items in
    let n = c.len-p-end.ensures in
    let few = c.len-p-end.type_inv in
    omega (arith, l, n, few))
