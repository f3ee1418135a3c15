use Rattle.std.proofs.Common.{◌≡◌, ◌+◌, Some, arith, refl, subst, sym}
use Rattle.std.specs.Prelude.{slice_get}
use Rattle.std.proofs.lemmas.Option.{slice_get_read}
use Rattle.ipmodify.proofs.ConflictLemmas.{IsSoFar, so_far-next, value_is, none_is, first_is}
use Rattle.ipmodify.proofs.conflicts.check.Goals as goal

pub loop-holder-init : goal.loop-holder-init
loop-holder-init c f i h = absurd (omega arith)

pub loop-holder-preserved : goal.loop-holder-preserved
loop-holder-preserved c =
    let hs = c.args.holders.now in
    let k = c.loop-holder.holder-index in
    let got : slice_get hs k ≡ Some c.holder-item.result = slice_get_read hs _ k _ refl c.loop-holder-test.true c.holder-item.is in
    subst (IsSoFar c.args.on.now hs c.args.me.0 (k + 1)) (sym c.lower-first.ensures)
    (so_far-next c.args.on.now hs c.args.me.0 k c.holder-item.result got c.loop-holder.first c.conflict_with.result c.loop-holder.invariant
    c.conflict_with.ensures.none c.conflict_with.ensures.some)

pub returns-clause-value : goal.returns-clause-value
returns-clause-value c = value_is _ _ _ _ c.loop-holder-test.false c.loop-holder.first c.loop-holder.invariant

pub returns-clause-none : goal.returns-clause-none
returns-clause-none c = none_is _ _ _ _ c.loop-holder-test.false c.loop-holder.first c.loop-holder.invariant

pub returns-clause-first : goal.returns-clause-first
returns-clause-first c = first_is _ _ _ _ c.loop-holder-test.false c.loop-holder.first c.loop-holder.invariant
