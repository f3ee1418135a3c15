use Rattle.std.proofs.Common.{ap, sym, ◌∙◌, arith}
use Rattle.ft_hist.specs.Past.{done}
use Rattle.ft_hist.specs.Telling.{past_at}
use Rattle.ft_hist.proofs.Splitting.{past-more}
use Rattle.trace_views.specs.Returned.{done_with}
use Rattle.trace_views.proofs.ReturnedLaws.{done-more, done-with-le}
use Rattle.trace_views.proofs.enabled.returned.Goals as goal

pub loop-place-preserved : goal.loop-place-preserved
loop-place-preserved c =
    let items = c.args.history.now.items in
    let p = c.loop-place.place in
    let item = c.item.result.now in
    let le = done-with-le item c.loop-place.returned in
    let e = c.returned_with-returned.ensures in
    let inv = c.loop-place.invariant.within in
    record {
      count = e ∙ ap (done_with item) c.loop-place.invariant.count ∙ sym (done-more item (past_at p items)) ∙ sym (ap done (past-more items p item c.item.ensures));
      within = omega (arith, le, e, inv);
    }
