-- What a hit makes of a seat.
use Rattle.std.proofs.Common.{◌≡◌, ◌+◌, ◌<◌, [], length, refl, sym, ap, ◌∙◌, subst, arith}
use Rattle.ring_table.specs.Seats.{Board, SeatGood, SeatPlace}
use Rattle.ring_table.specs.contracts.seats.RingSeat.{the_view}
use Rattle.ring_table.specs.Tally.{drawn, hits_of, switched_to}
use Rattle.ring_table.specs.Views.{cpu_view, known_of}
use Rattle.ring_table.proofs.Steps.{drawn-fired, drawn-me, good-drawn, good-fired, hits-at, hit-drawn, hit-fired, lists-count, note-room, sits-as, switched-me, value-as, view-at}
use Rattle.ring_table.proofs.ring.RingTable.hit.Goals as goal
use Rattle.ring_table.proofs.ring.RingTable.hit.Goals.{After-draw-ticket, After-switch}

-- the seat is of the table's plan
own : (c : After-draw-ticket) → c.seat.inside.seat.me.0.job ≡ c.self.inside.plan
own c = ap (λ (s : SeatPlace). s.plan) c.seat.view_is ∙ c.requires.table.1 ∙ sym (ap (λ (b : Board). b.plan) c.self.view_is)

within : (c : After-draw-ticket) → c.args.i < length c.self.inside.plan.triggers
within c = subst (λ (b : Board). c.args.i < length b.plan.triggers) (sym c.self.view_is) c.requires.trigger

free : (c : After-draw-ticket) → hits_of (known_of c.seat.inside.seat.me.0) c.args.i + c.seat.inside.left < c.seat.inside.room
free c = subst (λ (s : SeatPlace). hits_of s.known c.args.i + s.left < s.room) (sym c.seat.view_is) c.requires.room

good : (c : After-draw-ticket)
    → SeatGood c.self.inside.plan (known_of c.seat.inside.seat.me.0) c.seat.inside.ring c.seat.inside.fired.items c.seat.inside.next
    c.seat.inside.room c.seat.inside.left
good c =
    subst (λ p. SeatGood p (known_of c.seat.inside.seat.me.0) c.seat.inside.ring c.seat.inside.fired.items c.seat.inside.next c.seat.inside.room
    c.seat.inside.left)
    (own c) c.seat.invariant.good

-- what the seat knows after the ticket
me1 : (c : After-draw-ticket)
    → c.draw-ticket.new.seat.me ≡ (
      cpu_view c.self.inside.plan c.seat.inside.number.0
          (drawn c.self.inside.plan c.args.i c.draw-ticket.result (known_of c.seat.inside.seat.me.0)),
      [],
    )
me1 c =
    drawn-me c.seat.inside.seat.me c.draw-ticket.new.seat.me c.self.inside.table.shared.key c.self.inside.plan c.seat.inside.number.0 c.args.i
    c.draw-ticket.result
    (known_of c.seat.inside.seat.me.0) c.seat.invariant.view' (own c) c.self.invariant.key' c.draw-ticket.ensures.drawn

-- and after tracing was switched
me2 : (c : After-switch)
    → c.draw-ticket.new.seat.me ≡ (
      cpu_view c.self.inside.plan c.seat.inside.number.0
          (drawn c.self.inside.plan c.args.i c.draw-ticket.result (known_of c.seat.inside.seat.me.0)),
      [],
    )
    → c.switch.new.seat.me ≡ (
      cpu_view c.self.inside.plan c.seat.inside.number.0
          (switched_to c.switches_on.result (drawn c.self.inside.plan c.args.i c.draw-ticket.result (known_of c.seat.inside.seat.me.0))),
      [],
    )
me2 c was =
    switched-me c.draw-ticket.new.seat.me c.switch.new.seat.me c.self.inside.table.shared.key c.self.inside.plan c.seat.inside.number.0
    (drawn c.self.inside.plan c.args.i c.draw-ticket.result (known_of c.seat.inside.seat.me.0)) c.switches_on.result
    was c.self.invariant.key' c.switch.ensures.switched

pub note-requires-clause-room : goal.note-requires-clause-room
note-requires-clause-room c =
    let b = (goal.at.note-requires-clause-room c).After-draw-ticket in
    note-room c.self.inside.plan c.args.i c.draw-ticket.result (known_of c.seat.inside.seat.me.0) _ _ _ _ _ (good b) (within b) (free b)
    (sym c.fires.ensures ∙ c.if-fires.true)
    (c.draw-ticket.ensures.own c.seat.inside.number.0 (known_of c.seat.inside.seat.me.0)
    (view-at c.seat.inside.seat.me c.self.inside.table.shared.key (known_of c.seat.inside.seat.me.0) c.seat.inside.number.0 c.seat.invariant.view'
    (own b ∙ sym c.self.invariant.key')))

pub switch-requires-clause-view : goal.switch-requires-clause-view
switch-requires-clause-view c =
    let b = (goal.at.switch-requires-clause-view c).After-draw-ticket in
    let k = drawn c.self.inside.plan c.args.i c.draw-ticket.result (known_of c.seat.inside.seat.me.0) in (
      c.seat.inside.number.0,
      k,
      me1 b ∙ ap (λ p. (cpu_view p c.seat.inside.number.0 k, [])) (sym c.self.invariant.key'),
      drawn-fired c.self.inside.plan c.args.i c.draw-ticket.result (known_of c.seat.inside.seat.me.0) (let l = (good b).lengths.1 in let w =
          within b in omega (arith, l, w))
          (sym c.fires.ensures ∙ c.if-fires.true),
    )

pub invariant_of-seat : goal.invariant_of-seat
invariant_of-seat c =
    let a = (goal.at.invariant_of-seat c).After-switch in
    let b = (goal.at.invariant_of-seat c).After-draw-ticket in
    sits-as c.switch.new.seat.me c.self.inside.plan c.seat.inside.number.0 _ _ _ _ _ _ (me2 a (me1 b))
    (good-fired c.self.inside.plan c.args.i c.draw-ticket.result (known_of c.seat.inside.seat.me.0) _ _ _ _ _ (good b) (within b) (free b)
    c.args.item.now.place c.switches_on.result c.note.new.fired.items (sym c.fires.ensures ∙ c.if-fires.true)
    (subst (λ (s : SeatPlace). c.args.item.now.place < s.next) (sym c.seat.view_is) c.requires.place)
    c.note.ensures.lists c.note.ensures.spaces (lists-count c.seat.inside.fired.items c.note.new.fired.items _ _ c.note.ensures.lists))

pub invariant_of-seat-else-fires : goal.invariant_of-seat-else-fires
invariant_of-seat-else-fires c =
    let b = (goal.at.invariant_of-seat-else-fires c).After-draw-ticket in
    sits-as c.draw-ticket.new.seat.me c.self.inside.plan c.seat.inside.number.0 _ _ _ _ _ _ (me1 b)
    (good-drawn c.self.inside.plan c.args.i c.draw-ticket.result (known_of c.seat.inside.seat.me.0) _ _ _ _ _ (good b) (within b) (free b)
    (sym c.fires.ensures ∙ c.if-fires.false))

pub returns-then-fires : goal.returns-then-fires
returns-then-fires c =
    let a = (goal.at.returns-then-fires c).After-switch in
    let b = (goal.at.returns-then-fires c).After-draw-ticket in
    hits-at c.args.i c.args.item.now _ _ _ c.seat.view_is
    (hit-fired c.self.inside.plan c.args.i c.draw-ticket.result c.args.item.now _ _ (own b) (sym c.is_hit.ensures ∙ c.if-is_hit.true)
    (sym c.fires.ensures ∙ c.if-fires.true)
    (value-as c.switch.new.seat.me c.self.inside.plan c.seat.inside.number.0 _ (me2 a (me1 b)
    ∙ ap (λ on. (
      cpu_view c.self.inside.plan c.seat.inside.number.0
          (switched_to on (drawn c.self.inside.plan c.args.i c.draw-ticket.result (known_of c.seat.inside.seat.me.0))),
      [],
    )) c.switches_on.ensures) _ _
    (the_view c.seat.inside) (c.switch.ensures.same.0 ∙ c.draw-ticket.ensures.same.0)
    (c.switch.ensures.same.1 ∙ c.draw-ticket.ensures.same.1) (own b) _ _ c.note.ensures.lists))

pub returns-else-fires : goal.returns-else-fires
returns-else-fires c =
    let b = (goal.at.returns-else-fires c).After-draw-ticket in
    hits-at c.args.i c.args.item.now _ _ _ c.seat.view_is
    (hit-drawn c.self.inside.plan c.args.i c.draw-ticket.result c.args.item.now _ _ (own b) (sym c.is_hit.ensures ∙ c.if-is_hit.true)
    (sym c.fires.ensures ∙ c.if-fires.false)
    (value-as c.draw-ticket.new.seat.me c.self.inside.plan c.seat.inside.number.0 _ (me1 b) _ _ (the_view c.seat.inside) c.draw-ticket.ensures.same.0
    c.draw-ticket.ensures.same.1 (own b) _ _ refl))
