use Rattle.std.proofs.Common.{List, [], ap, ◌∙◌, arith}
use Rattle.ft_base.specs.declared.item.Item.{Item}
use Rattle.ft_hist.specs.Telling.{past_at}
use Rattle.ft_hist.proofs.Splitting.{length-past}
use Rattle.trace_views.specs.FunctionText.{function_part}
use Rattle.trace_views.specs.FunctionViews.{HasFunction}
use Rattle.trace_views.specs.Words.{item_texts}
use Rattle.trace_views.proofs.FollowLaws.{next-place, all-past}
use Rattle.trace_views.proofs.ItemTexts.{legal-at}
use Rattle.trace_views.proofs.function.function_lines.Goals as goal

pub take-requires-clause-next : goal.take-requires-clause-next
take-requires-clause-next g c =
    let job = g.N.Named.job c.args.names.now in
    let past = past_at c.loop-place.place c.args.history.now.items in
    let long = length-past c.args.history.now.items c.loop-place.place c.item.result.now c.item.ensures in (
      job,
      past,
      c.make_room.ensures.same job past c.loop-place.invariant,
      legal-at c.args.history.now.items c.loop-place.place c.item.result.now c.item.ensures job c.requires,
      omega (arith, long),
    )

pub loop-place-preserved : goal.loop-place-preserved
loop-place-preserved g c =
    let job = g.N.Named.job c.args.names.now in
    let past = past_at c.loop-place.place c.args.history.now.items in
    next-place (λ past. HasFunction job past c.take.new.self) c.args.history.now.items c.loop-place.place c.item.result.now c.item.ensures
    (c.take.ensures job past (c.make_room.ensures.same job past c.loop-place.invariant)
    (legal-at c.args.history.now.items c.loop-place.place c.item.result.now c.item.ensures job c.requires))

pub returns : goal.returns
returns g c =
    c.loop-place.invariant.texts
    ∙ ap (λ (xs : List Item). item_texts (function_part (g.N.Named.job c.args.names.now)) [] xs) (all-past c.args.history.now.items c.loop-place.place (omega arith))
