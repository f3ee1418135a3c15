use Rattle.std.proofs.Common.{◌≡◌, ◌<◌, ◌^◌, ℕ, List, length, sym, ap, ap₂, ◌∙◌, subst}
use Rattle.word_machine_laws.specs.Led.{in_order}
use Rattle.word_machine_laws.specs.Orders.{AreAllLed}
use Rattle.word_machine.specs.Limits.{IsLimited}
use Rattle.script_jobs.proofs.LaneOrders.{no-lanes, some-lanes}
use Rattle.log_reader.specs.Lanes.{lanes_named}
use Rattle.judge_app.specs.Lanes.{told_order}
use Rattle.judge_app.proofs.LogJobs.{all-told, lanes-few, led-alone, led-merged}
use Rattle.judge_app.proofs.lanes.led_by.Goals as goal

pub order_told-requires : goal.order_told-requires
order_told-requires c =
    let limited : IsLimited c.args.job = subst IsLimited c.job.view_is c.job.invariant.limited in
    subst (λ (ls : List ℕ). length ls < 2 ^ 32) (sym c.lanes-2.ensures.lanes) (lanes-few c.args.job c.lanes.ensures.planned limited)

pub in_order-requires : goal.in_order-requires
in_order-requires c =
    let job = c.args.job in
    let some = some-lanes job c.lanes.result.now c.is_empty.result c.lanes.ensures.lanes c.is_empty.ensures c.if-is_empty.false in
    let same : c.as_slice-2.result.now ≡ told_order job.lines.lanes c.in_ok-named.named.items =
    c.as_slice-2.ensures.value ∙ c.in_ok-order.ensures ∙ ap₂ (λ (ls ns : List ℕ). told_order ls ns) c.lanes-2.ensures.lanes c.as_slice.ensures.value in
    subst (AreAllLed (length job.ctls)) (sym same) (all-told job c.in_ok-named.named.items c.lanes.ensures.planned some)

pub returns-then-is_empty : goal.returns-then-is_empty
returns-then-is_empty c =
    let none = no-lanes c.args.job c.lanes.result.now c.is_empty.result c.lanes.ensures.lanes c.is_empty.ensures c.if-is_empty.true in
    sym (led-alone c.args.log.now c.args.job none)

pub returns-in-Ok : goal.returns-in-Ok
returns-in-Ok c =
    let job = c.args.job in
    let some = some-lanes job c.lanes.result.now c.is_empty.result c.lanes.ensures.lanes c.is_empty.ensures c.if-is_empty.false in
    let same : c.as_slice-2.result.now ≡ told_order job.lines.lanes (lanes_named c.args.log.now) =
    c.as_slice-2.ensures.value ∙ c.in_ok-order.ensures
    ∙ ap₂ (λ (ls ns : List ℕ). told_order ls ns) c.lanes-2.ensures.lanes (c.as_slice.ensures.value ∙ c.in_ok-named.ensures) in
    c.in-Ok.ensures.ok ∙ ap (λ (o : List ℕ). in_order job o) same ∙ sym (led-merged c.args.log.now job some)
