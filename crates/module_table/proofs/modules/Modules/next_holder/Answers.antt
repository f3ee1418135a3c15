use Rattle.std.proofs.Common.{length, ap, sym, ◌∙◌, arith}
use Rattle.module_table.specs.Lines.{Between}
use Rattle.module_table.proofs.ClashLaws.{next-found, next-none}
use Rattle.module_table.proofs.modules.Modules.next_holder.Goals as goal

pub returns-then-replaces-clause-value : goal.returns-then-replaces-clause-value
returns-then-replaces-clause-value c =
    let under = c.loop-u-test.true in
    let all = c.users-u-end.ensures in
    let same = ap (λ (b : Between). length b.declared.specs) c.self.view_is in
    next-found c.args.self.now c.args.hidden.now c.args.f c.args.from (length c.args.self.now.declared.specs) c.loop-u.u c.loop-u.invariant.low (omega (arith, under, all, same)) c.loop-u.invariant.none
    (sym c.replaces.ensures ∙ c.if-replaces.true)

pub returns-clause-value : goal.returns-clause-value
returns-clause-value c =
    let past = c.loop-u-test.false in
    let all = c.users-u-end.ensures in
    let same = ap (λ (b : Between). length b.declared.specs) c.self.view_is in
    next-none c.args.self.now c.args.hidden.now c.args.f c.args.from (length c.args.self.now.declared.specs) (λ k l r. c.loop-u.invariant.none k l (omega (arith, past, all, same, r)))
