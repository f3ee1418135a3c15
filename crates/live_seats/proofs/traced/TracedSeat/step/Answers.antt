use Rattle.std.proofs.Common.{◌≤◌, length, sym, ap, ◌∙◌, subst, option_map, Bor}
use Rattle.ft_base.specs.declared.item.Stamped.{Stamped}
use Rattle.word_machine.specs.Laws.{room_on}
use Rattle.ring_table.specs.Seats.{SitsAt as SitsAtRings}
use Rattle.live_table.specs.Seats.{IsRising}
use Rattle.live_seats.specs.Traced.{TracedPlace}
use Rattle.live_seats.proofs.Offered.{has-more, nothing-offered, offer-place, offer-room, offered}
use Rattle.live_seats.proofs.traced.TracedSeat.step.Goals as goal

pub offer-requires-clause-place : goal.offer-requires-clause-place
offer-requires-clause-place c =
    let s = c.self.inside.cpu in
    let t = c.cpu_step.new.seat in
    let i = c.items-items.ensures in
    offer-place s t c.self.inside.ring (has-more s t c.cpu_step.result c.cpu_step.ensures c.in-More.is) c.self.invariant (subst IsRising i.items i.rising)
    (subst (λ l. length l ≤ room_on t.job t.number) i.items i.few) c.in-Some.item.now (sym c.last.ensures ∙ ap (option_map (λ (x : Bor Stamped). x.now)) c.in-Some.is)

pub offer-requires-clause-room : goal.offer-requires-clause-room
offer-requires-clause-room c =
    let s = c.self.inside.cpu in
    let t = c.cpu_step.new.seat in
    let i = c.items-items.ensures in
    offer-room s t c.self.inside.ring (has-more s t c.cpu_step.result c.cpu_step.ensures c.in-More.is) c.self.invariant (subst IsRising i.items i.rising)
    (subst (λ l. length l ≤ room_on t.job t.number) i.items i.few) c.in-Some.item.now (sym c.last.ensures ∙ ap (option_map (λ (x : Bor Stamped). x.now)) c.in-Some.is)

pub invariant_of-self-in-Some : goal.invariant_of-self-in-Some
invariant_of-self-in-Some c =
    let s = c.self.inside.cpu in
    let t = c.cpu_step.new.seat in
    let i = c.items-items.ensures in
    offered s t c.self.inside.ring (has-more s t c.cpu_step.result c.cpu_step.ensures c.in-More.is) c.self.invariant (subst IsRising i.items i.rising)
    (subst (λ l. length l ≤ room_on t.job t.number) i.items i.few) c.in-Some.item.now (sym c.last.ensures ∙ ap (option_map (λ (x : Bor Stamped). x.now)) c.in-Some.is) c.args.rings.now c.offer.new.seat
    (subst (λ (u : TracedPlace). SitsAtRings c.args.rings.now u.ring) (sym c.self.view_is) c.requires.rings) c.offer.ensures.same c.offer.ensures.has

pub invariant_of-self-in_default : goal.invariant_of-self-in_default
invariant_of-self-in_default c =
    let s = c.self.inside.cpu in
    let t = c.cpu_step.new.seat in
    let i = c.items-items.ensures in
    nothing-offered s t c.self.inside.ring (has-more s t c.cpu_step.result c.cpu_step.ensures c.in-More.is) c.self.invariant (subst IsRising i.items i.rising)
    (subst (λ l. length l ≤ room_on t.job t.number) i.items i.few) (sym c.last.ensures ∙ ap (option_map (λ (x : Bor Stamped). x.now)) c.in_default.is)
