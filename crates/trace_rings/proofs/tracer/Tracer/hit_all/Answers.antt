use Rattle.std.proofs.Common.{ap, arith}
use Rattle.std.specs.Prelude.{slice_index}
use Rattle.trace_rings.specs.Traced.{Traced}
use Rattle.ring_rules.proofs.FoldSteps.{all-later}
use Rattle.trace_rings.proofs.Folds.{for-all}
use Rattle.trace_rings.proofs.tracer.Tracer.hit_all.Goals as goal

pub hit-requires-clause-plan : goal.hit-requires-clause-plan
hit-requires-clause-plan c = for-all c.args.plan.now c.args.place c.args.item.now c.loop-i.i c.args.self.now c.loop-i.self c.requires.plan
    c.loop-i.invariant

pub hit-requires-clause-few : goal.hit-requires-clause-few
hit-requires-clause-few c =
    let e = ap (λ (t : Traced). slice_index t.so_far.hits c.loop-i.i) c.loop-i.invariant in
    let s = ap (λ (t : Traced). t.seen) c.loop-i.invariant in
    let l = all-later c.args.plan.now c.args.place c.args.item.now c.loop-i.i c.loop-i.i c.args.self.now.so_far (omega arith) in
    let f = c.requires.few c.loop-i.i in
    omega (arith, e, s, l, f)
