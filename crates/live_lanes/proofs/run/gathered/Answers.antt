use Rattle.std.proofs.Common.{ℕ, List, ◌≡◌, ◌∙◌, length, ap, sym, subst}
use Rattle.ft_base.specs.Job.{Job}
use Rattle.ft_hist.specs.Rules.{IsWhole}
use Rattle.word_machine_laws.specs.Led.{in_order}
use Rattle.word_machine_laws.specs.Orders.{AreAllLed, IsLaneOrder}
use Rattle.live_table.specs.Seats.{IsMadeByTurns}
use Rattle.live_lanes.proofs.LaneRuns.{all_led, led_merge}
use Rattle.live_lanes.proofs.run.gathered.Goals as goal

pub in_order-requires : goal.in_order-requires
in_order-requires c =
    let k = c.args.ended.control in
    let merge : IsLaneOrder c.args.job.lines.lanes k.order =
    led_merge c.args.live c.args.job k c.requires.job.0 c.requires.job.1 c.requires.control c.order.ensures.once c.requires.served in
    let copied : c.as_slice.result.now ≡ k.order = c.as_slice.ensures.value ∙ c.in-Ok.ensures ∙ c.order.ensures.order in
    subst (AreAllLed (length c.args.job.ctls)) (sym copied) (all_led c.args.job k.order c.requires.job.0 merge)

pub returns-in-Ok-in_order-clause-ok : goal.returns-in-Ok-in_order-clause-ok
returns-in-Ok-in_order-clause-ok c =
    let k = c.args.ended.control in
    let merge : IsLaneOrder c.args.job.lines.lanes k.order =
    led_merge c.args.live c.args.job k c.requires.job.0 c.requires.job.1 c.requires.control c.order.ensures.once c.requires.served in
    let copied : c.as_slice.result.now ≡ k.order = c.as_slice.ensures.value ∙ c.in-Ok.ensures ∙ c.order.ensures.order in
    let job : c.in-Ok-in_order.job ≡ in_order c.args.job k.order = c.in-Ok-in_order.ensures.ok ∙ ap (λ (o : List ℕ). in_order c.args.job o) copied in
    let led : k.led ≡ c.in-Ok-in_order.job = c.order.ensures.led ∙ ap (λ (j : Job). in_order j k.order) (c.requires.control.1 ∙ c.requires.job.1)
    ∙ sym job in
    (k.order, merge, job, subst (λ (j : Job). IsWhole j c.in-Ok-gather.history.items) led (c.in-Ok-gather.ensures.whole c.requires.ended))

pub returns-in-Ok-in_order-clause-turns : goal.returns-in-Ok-in_order-clause-turns
returns-in-Ok-in_order-clause-turns c =
    let k = c.args.ended.control in
    let copied : c.as_slice.result.now ≡ k.order = c.as_slice.ensures.value ∙ c.in-Ok.ensures ∙ c.order.ensures.order in
    let job : c.in-Ok-in_order.job ≡ in_order c.args.job k.order = c.in-Ok-in_order.ensures.ok ∙ ap (λ (o : List ℕ). in_order c.args.job o) copied in
    let led : k.led ≡ c.in-Ok-in_order.job = c.order.ensures.led ∙ ap (λ (j : Job). in_order j k.order) (c.requires.control.1 ∙ c.requires.job.1)
    ∙ sym job in
    subst (λ (j : Job). IsMadeByTurns j c.in-Ok-gather.history.items) led c.in-Ok-gather.ensures.turns
