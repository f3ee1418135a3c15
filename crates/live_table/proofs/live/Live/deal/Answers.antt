use Rattle.std.proofs.Common.{◌≡◌, length, sym, ap, ◌∙◌, subst, arith}
use Rattle.ft_base.specs.Job.{Job}
use Rattle.word_map.specs.Shapes.{shape_of}
use Rattle.word_machine.specs.Limits.{IsLimited}
use Rattle.live_table.specs.Seats.{Board, ControlPlace}
use Rattle.live_table.proofs.Dealt.{control-deals, cpu-deals}
use Rattle.live_table.proofs.Joined.{has-clock}
use Rattle.live_table.proofs.Seating.{splits}
use Rattle.live_table.proofs.live.Live.deal.Goals as goal

pub split_seat-seat-requires : goal.split_seat-seat-requires
split_seat-seat-requires c =
    let key : c.self.inside.table.shared.key.job.value ≡ c.args.self.now.job = ap (λ (b : Board). b.job) c.self.view_is in
    let table = ap (λ (b : Board). b.table_id) c.self.view_is in
    let split : c.control.inside.seat.me.0.split ≡ c.args.control.now.split = ap (λ (s : ControlPlace). s.split) c.control.view_is in
    let quanta = ap (λ (j : Job). length j.quanta) key in
    let number = c.requires.next.0 in
    let few = c.requires.next.1 in
    let words = c.self.invariant.words in
    let clock = has-clock (shape_of c.self.inside.table.shared.key.job.value) in (
      ap (λ (s : ControlPlace). s.table_id) c.control.view_is ∙ c.requires.own.0 ∙ sym table,
      omega (arith, words, clock),
      splits _ _ _ _ _ _ _ (ap (λ m. m.0) c.control.invariant.view') (ap (λ (s : ControlPlace). s.job) c.control.view_is ∙ c.requires.own.1 ∙ sym key)
          (omega (arith, split, number, quanta, few)),
    )

pub invariant_of-control : goal.invariant_of-control
invariant_of-control c = control-deals _ _ _ c.control.invariant c.split_seat-seat.ensures.2

pub invariant_of-result : goal.invariant_of-result
invariant_of-result c =
    let split : c.control.inside.seat.me.0.split ≡ c.args.control.now.split = ap (λ (s : ControlPlace). s.split) c.control.view_is in
    let same : c.control.inside.seat.me.0.job ≡ c.args.self.now.job = ap (λ (s : ControlPlace). s.job) c.control.view_is ∙ c.requires.own.1 in
    let key : c.self.inside.table.shared.key.job.value ≡ c.args.self.now.job = ap (λ (b : Board). b.job) c.self.view_is in
    cpu-deals c.control.inside.seat.me.0 _ c.args.self.now.job _ _ (subst IsLimited key c.self.invariant.limited) same (split ∙ c.requires.next.0) c.requires.next.1
    c.split_seat-seat.ensures.4 c.requires.first
