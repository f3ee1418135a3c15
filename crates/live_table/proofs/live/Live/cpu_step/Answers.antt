use Rattle.std.proofs.Common.{◌≡◌, sym, ap, ◌∙◌, refl}
use Rattle.live_table.specs.Seats.{Board, CpuPlace}
use Rattle.live_table.proofs.CpuStep.{cpu-allows, cpu-sits, cpu-steps, cpu-stops, cpu-taken, cpu-within}
use Rattle.live_table.proofs.live.Live.cpu_step.Goals as goal

pub make-value-requires-clause-word : goal.make-value-requires-clause-word
make-value-requires-clause-word c =
    let same : c.seat.inside.seat.me.0.job ≡ c.self.inside.table.shared.key.job.value =
    ap (λ (s : CpuPlace). s.job) c.seat.view_is ∙ c.requires.1 ∙ sym (ap (λ (b : Board). b.job) c.self.view_is) in
    cpu-within c.seat.inside.seat.me _ _ _ c.seat.invariant c.in-Some.op c.in-Some.ensures c.self.inside.table.shared.key.job.value same _ c.self.invariant.words

pub make-value-requires-clause-allows : goal.make-value-requires-clause-allows
make-value-requires-clause-allows c =
    let same : c.seat.inside.seat.me.0.job ≡ c.self.inside.table.shared.key.job.value =
    ap (λ (s : CpuPlace). s.job) c.seat.view_is ∙ c.requires.1 ∙ sym (ap (λ (b : Board). b.job) c.self.view_is) in
    cpu-allows c.seat.inside.seat.me _ _ _ c.seat.invariant c.in-Some.op c.in-Some.ensures c.self.inside.table.shared.key.job.value same _ _

pub got-requires : goal.got-requires
got-requires c =
    let t = c.make-value.ensures.took in
    cpu-taken c.seat.inside.seat.me _ _ _ c.seat.invariant c.in-Some.op c.in-Some.ensures _ t.0 _ t.1 t.2

pub invariant_of-seat : goal.invariant_of-seat
invariant_of-seat c =
    let t = c.make-value.ensures.took in
    cpu-sits c.seat.inside.seat.me _ _ _ c.seat.invariant c.in-Some.op c.in-Some.ensures _ t.0 _ t.1 t.2 _
    c.got.ensures.of c.got.ensures.cpu c.got.ensures.items c.got.ensures.room c.got.ensures.left _ _ c.items-before.ensures c.items.ensures

pub returns : goal.returns
returns c =
    let t = c.make-value.ensures.took in
    cpu-steps c.seat.inside.seat.me _ _ _ c.seat.invariant c.in-Some.op c.in-Some.ensures _ t.0 _ t.1 t.2 _ _ _ _ _ c.seat.view_is
    c.make-value.ensures.same.0 c.make-value.ensures.same.1

pub returns-in_default : goal.returns-in_default
returns-in_default c = (
  (cpu-stops c.seat.inside.seat.me _ _ _ c.seat.invariant _ c.next.ensures c.in_default.is _ _ c.args.seat.now c.seat.view_is).0,
  refl,
)
