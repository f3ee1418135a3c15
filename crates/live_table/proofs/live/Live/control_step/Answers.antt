use Rattle.std.proofs.Common.{◌≡◌, sym, ap, ◌∙◌, refl}
use Rattle.live_table.specs.Seats.{Board, ControlPlace}
use Rattle.live_table.proofs.ControlStep.{control-allows, control-sits, control-steps, control-stops, control-within}
use Rattle.live_table.proofs.live.Live.control_step.Goals as goal

pub make-value-requires-clause-word : goal.make-value-requires-clause-word
make-value-requires-clause-word c =
    let same : c.seat.inside.seat.me.0.job ≡ c.self.inside.table.shared.key.job.value =
    ap (λ (s : ControlPlace). s.job) c.seat.view_is ∙ c.requires.1 ∙ sym (ap (λ (b : Board). b.job) c.self.view_is) in
    control-within c.seat.inside.seat.me _ c.seat.invariant c.in-Some.op c.in-Some.ensures c.self.inside.table.shared.key.job.value same _ c.self.invariant.words

pub make-value-requires-clause-allows : goal.make-value-requires-clause-allows
make-value-requires-clause-allows c =
    let same : c.seat.inside.seat.me.0.job ≡ c.self.inside.table.shared.key.job.value =
    ap (λ (s : ControlPlace). s.job) c.seat.view_is ∙ c.requires.1 ∙ sym (ap (λ (b : Board). b.job) c.self.view_is) in
    control-allows c.seat.inside.seat.me _ c.seat.invariant c.in-Some.op c.in-Some.ensures c.self.inside.table.shared.key.job.value same _ _

pub invariant_of-seat : goal.invariant_of-seat
invariant_of-seat c =
    let t = c.make-value.ensures.took in
    control-sits c.seat.inside.seat.me _ c.seat.invariant c.in-Some.op c.in-Some.ensures _ t.0 _ t.1 t.2 _
    c.got.ensures.of c.got.ensures.control c.got.ensures.all c.got.ensures.order c.got.ensures.items

pub returns : goal.returns
returns c =
    let t = c.make-value.ensures.took in
    control-steps c.seat.inside.seat.me _ c.seat.invariant c.in-Some.op c.in-Some.ensures _ t.0 _ t.1 t.2 c.got.new.self c.got.ensures.order _ _ _ _ _ c.seat.view_is
    c.make-value.ensures.same.0 c.make-value.ensures.same.1

pub returns-in_default : goal.returns-in_default
returns-in_default c = (
  (control-stops c.seat.inside.seat.me _ c.seat.invariant _ c.next.ensures c.in_default.is _ _ c.args.seat.now c.seat.view_is).0,
  refl,
)
