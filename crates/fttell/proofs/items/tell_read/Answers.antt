use Rattle.std.proofs.Common.{arith, List, subst, take, ◌∙◌}
use Rattle.std.specs.Io.KnownBytes.{Appends}
use Rattle.std.proofs.lemmas.List.{length-reverse, length-take-le}
use Rattle.std.proofs.lemmas.Option.{slice_get-get_or}
use Rattle.ft_base.specs.declared.item.Item.{Item}
use Rattle.ft_hist.specs.Telling.{past_at}
use Rattle.told_items.specs.ItemText.{told_text}
use Rattle.trace_views.proofs.FollowLaws.{all-past, next-place}
use Rattle.fttell.specs.Telling.{HasToldOf}
use Rattle.fttell.proofs.items.tell_read.Goals as goal

pub loop-item-init : goal.loop-item-init
loop-item-init g c = c.in-Ok.ensures.0

pub put-requires-clause-counted : goal.put-requires-clause-counted
put-requires-clause-counted g c =
    let test = c.loop-item-test.true in
    let items = c.as_slice-item-items.result.now in
    let told = (c.make_room.ensures.took c.args.job.now (past_at c.loop-item.item-index items) c.in-Ok.telling c.loop-item.invariant).told.place' in
    let before = length-reverse (take c.loop-item.item-index items) ∙ length-take-le c.loop-item.item-index items (omega (arith, test)) in
    let same = c.as_slice-item-items.ensures.len in
    let few = c.if-len.false in
    let count = c.len.ensures in
    omega (arith, told, before, same, few, count, test)

pub loop-item-preserved : goal.loop-item-preserved
loop-item-preserved g c =
    let items = c.as_slice-item-items.result.now in
    let i = c.loop-item.item-index in
    next-place (λ (past : List Item). HasToldOf g.K.Sink.holds g.K.Sink.faults c.args.job.now past c.in-Ok.telling c.put.new.self) items i _
    (slice_get-get_or items i _ c.loop-item-test.true)
    (c.put.ensures c.args.job.now (past_at i items) c.in-Ok.telling (c.make_room.ensures.took c.args.job.now (past_at i items) c.in-Ok.telling c.loop-item.invariant))

pub returns : goal.returns
returns g c = λ answered.
    let items = c.as_slice-item-items.result.now in
    let told = c.end.ensures c.args.job.now (past_at c.loop-item.item-index items) c.in-Ok.telling c.loop-item.invariant answered in (
      told.0,
      subst (λ (xs : List Item). Appends (g.K.Sink.holds c.args.sink) (g.K.Sink.holds c.end.result.1) (told_text c.args.job.now xs c.args.log.now.ended))
          (all-past items c.loop-item.item-index (omega arith) ∙ c.as_slice-item-items.ensures.value) (rw c.in-Ok.ensures.1 at told.1),
    )
