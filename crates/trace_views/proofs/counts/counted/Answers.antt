use Rattle.std.proofs.Common.{arith, subst}
use Rattle.std.proofs.lemmas.List.{take_all}
use Rattle.trace_views.specs.Counted.{IsCounted}
use Rattle.trace_views.proofs.CountLaws.{counted-more, counts-within}
use Rattle.trace_views.proofs.counts.counted.Goals as goal

pub with_kind-counts-requires : goal.with_kind-counts-requires
with_kind-counts-requires c = counts-within c.args.history.now.items c.loop-place.place c.loop-place.counts (omega arith) (omega arith) c.loop-place.invariant

pub loop-place-preserved : goal.loop-place-preserved
loop-place-preserved c =
    rw (c.with_kind-counts.ensures, c.kind.ensures) (counted-more c.args.history.now.items c.loop-place.place c.item.result.now c.loop-place.counts c.item.ensures c.loop-place.invariant)

pub returns : goal.returns
returns c = subst (λ items. IsCounted items c.loop-place.counts) (take_all c.loop-place.place c.args.history.now.items (omega arith)) c.loop-place.invariant
