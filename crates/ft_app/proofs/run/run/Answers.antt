use Rattle.std.proofs.Common.{◌≡◌, List, refl, ◌∙◌}
use Rattle.ft_base.specs.declared.item.Item.{Item}
use Rattle.ft_words.specs.declared.order.Order.TheVariants.{Run}
use Rattle.script_jobs.proofs.LaneOrders.{no-lanes}
use Rattle.ft_app.specs.Reply.{IsKeptFor, IsRunOf}
use Rattle.ft_app.proofs.HistoryRings.{all-kept, none-kept}
use Rattle.ft_app.proofs.Merges.{in-lanes, whole-run, without-lanes}
use Rattle.ft_app.proofs.run.run.Goals as goal

pub run_alone-requires-clause-lanes : goal.run_alone-requires-clause-lanes
run_alone-requires-clause-lanes g c = λ _ _.
    no-lanes c.args.job c.lanes.result.now c.is_empty.result c.lanes.ensures.lanes c.is_empty.ensures c.if-is_empty.true

-- ## without lanes

pub returns-then-is_empty-clause-led : goal.returns-then-is_empty-clause-led
returns-then-is_empty-clause-led g c =
    without-lanes c.args.job c.lanes.result.now c.is_empty.result c.lanes.ensures.lanes c.is_empty.ensures c.if-is_empty.true _ c.run_to_end.ensures.job

-- ## with lanes

pub returns-in-Ok-clause-led : goal.returns-in-Ok-clause-led
returns-in-Ok-clause-led g c =
    let ran = c.in-Ok.ensures.ok in
    let same : c.run_to_end-in-Ok.result.job ≡ c.in-Ok.field-0.job = (let e = c.run_to_end-in-Ok.ensures.job in let f = c.in-Ok.job-is in cc) in
    in-lanes c.args.job c.lanes.result.now c.is_empty.result c.lanes.ensures.lanes c.is_empty.ensures c.if-is_empty.false ran.0 ran.1 _ (same ∙ ran.2)

pub returns-in-Ok-clause-run : goal.returns-in-Ok-clause-run
returns-in-Ok-clause-run g c =
    let out = c.run_to_end-in-Ok.result in
    let same : out.job ≡ c.in-Ok.field-0.job = (let e = c.run_to_end-in-Ok.ensures.job in let f = c.in-Ok.job-is in cc) in
    all-kept out.kept c.in-Ok.field-0.history (λ (items : List Item). IsRunOf out.job items out.ended) c.run_to_end-in-Ok.ensures.items
    (whole-run _ _ _ _ _ same refl c.run_to_end-in-Ok.ensures.ended c.in-Ok.ensures.ok.3 c.in-Ok.ensures.turns)

pub returns-in-Ok-clause-kept : goal.returns-in-Ok-clause-kept
returns-in-Ok-clause-kept g c =
    let out = c.run_to_end-in-Ok.result in
    all-kept out.kept c.in-Ok.field-0.history (λ (items : List Item). IsKeptFor (Run c.args.form) out.job items out.rings) c.run_to_end-in-Ok.ensures.items
    (none-kept (Run c.args.form) out.job c.in-Ok.field-0.history.items out.rings c.run_to_end-in-Ok.ensures.rings)
