use Rattle.std.proofs.Common.{refl, arith}
use Rattle.trace_views.proofs.Switches.{fold_with, hit-not-yet, hits-stay}
use Rattle.trace_views.proofs.switch.Switch.hit_all.Goals as goal

pub hit-requires-clause-count : goal.hit-requires-clause-count
hit-requires-clause-count c =
    let stay = hits-stay c.args.plan.now c.args.item.now c.loop-i.i c.args.self.now c.loop-i.self
    (c.loop-i.invariant 0 (fold_with c.args.self.now) (record { on' = refl; hits' = refl })) in
    let within = c.loop-i-test.true in
    let many = c.trigger_count-i-end.ensures in
    let count = c.requires.count in
    omega (arith, stay, within, many, count)

pub hit-requires-clause-few : goal.hit-requires-clause-few
hit-requires-clause-few c =
    let stay = hit-not-yet c.args.plan.now c.args.item.now c.loop-i.i c.args.self.now c.loop-i.self
    (c.loop-i.invariant 0 (fold_with c.args.self.now) (record { on' = refl; hits' = refl })) in
    let few = c.requires.few c.loop-i.i in
    omega (arith, stay, few)
