use Rattle.std.proofs.Common.{false, refl, subst, arith}
use Rattle.std.specs.List.Sorted.{IsNonDecreasingBy}
use Rattle.std.proofs.lemmas.List.{take_all}
use Rattle.module_coverage.specs.declared.change.Change.{Change}
use Rattle.module_coverage.proofs.Order.{order-more}
use Rattle.module_coverage.proofs.change.are_in_order.Goals as goal

pub loop-i-preserved : goal.loop-i-preserved
loop-i-preserved c =
    order-more c.args.changes.now c.loop-i.i (record { «module» = 0; load = false; at = 0 }) (omega arith) (omega arith) c.if-changes-i.false c.loop-i.invariant

pub returns : goal.returns
returns c = (
  λ _. subst (λ xs. IsNonDecreasingBy (λ (x : Change). x.at) xs) (take_all c.loop-i.i c.args.changes.now (omega arith)) c.loop-i.invariant,
  λ _. refl,
)
