-- What a look at tracing makes of a seat.
use Rattle.std.proofs.Common.{◌≡◌, ◌+◌, ◌<◌, [], true, false, refl, sym, ap, ◌∙◌, subst, arith}
use Rattle.ring_rules.specs.Gathered.{RingBox}
use Rattle.ring_table.specs.Seats.{Board, SeatGood, SeatPlace}
use Rattle.ring_table.specs.Tally.{looked}
use Rattle.ring_table.specs.Views.{cpu_view, known_of}
use Rattle.ring_table.proofs.Steps.{good-looked, looked-as, looked-at, looked-me, sits-as, written-as}
use Rattle.ring_table.proofs.ring.RingTable.trace.Goals as goal
use Rattle.ring_table.proofs.ring.RingTable.trace.Goals.{After-look}

own : (c : After-look) → c.seat.inside.seat.me.0.job ≡ c.self.inside.plan
own c = ap (λ (s : SeatPlace). s.plan) c.seat.view_is ∙ c.requires.table.1 ∙ sym (ap (λ (b : Board). b.plan) c.self.view_is)

good : (c : After-look)
    → SeatGood c.self.inside.plan (known_of c.seat.inside.seat.me.0) c.seat.inside.ring c.seat.inside.fired.items c.seat.inside.next
    c.seat.inside.room c.seat.inside.left
good c =
    subst (λ p. SeatGood p (known_of c.seat.inside.seat.me.0) c.seat.inside.ring c.seat.inside.fired.items c.seat.inside.next c.seat.inside.room
    c.seat.inside.left)
    (own c) c.seat.invariant.good

me1 : (c : After-look) → c.look.new.seat.me
    ≡ (cpu_view c.self.inside.plan c.seat.inside.number.0 (looked c.look.result (known_of c.seat.inside.seat.me.0)), [])
me1 c =
    looked-me c.seat.inside.seat.me c.look.new.seat.me c.self.inside.table.shared.key c.self.inside.plan c.seat.inside.number.0
    (known_of c.seat.inside.seat.me.0) c.look.result
    c.seat.invariant.view' (own c) c.self.invariant.key' c.look.ensures.looked

pub invariant_of-seat : goal.invariant_of-seat
invariant_of-seat c =
    let b = (goal.at.invariant_of-seat c).After-look in
    sits-as c.look.new.seat.me c.self.inside.plan c.seat.inside.number.0 _ _ _ _ _ _ (me1 b)
    (good-looked c.self.inside.plan _ c.seat.inside.ring _ _ _ _ (good b) c.look.result c.write.new.self
    (ap (λ (r : RingBox). r.most) c.write.ensures)
    (let lt = subst (λ (s : SeatPlace). s.ring.written + s.left < s.room) (sym c.seat.view_is) c.requires.room in
    let w = ap (λ (r : RingBox). r.ring.written) c.write.ensures in
    omega (arith, lt, w)))

pub invariant_of-seat-else-look : goal.invariant_of-seat-else-look
invariant_of-seat-else-look c =
    let b = (goal.at.invariant_of-seat-else-look c).After-look in
    sits-as c.look.new.seat.me c.self.inside.plan c.seat.inside.number.0 _ _ _ _ _ _ (me1 b)
    (good-looked c.self.inside.plan _ c.seat.inside.ring _ _ _ _ (good b) c.look.result c.seat.inside.ring refl (good b).written')

pub returns-then-look : goal.returns-then-look
returns-then-look c =
    let b = (goal.at.returns-then-look c).After-look in (
      true,
      looked-at c.args.place true _ _ _ c.seat.view_is
          (looked-as c.look.new.seat.me c.self.inside.plan c.seat.inside.number.0 true c.args.place _
          (me1 b ∙ ap (λ on. (cpu_view c.self.inside.plan c.seat.inside.number.0 (looked on (known_of c.seat.inside.seat.me.0)), [])) c.if-look.true)
          _ _ c.look.ensures.same.0 c.look.ensures.same.1 (own b) _
          (written-as c.args.place c.seat.inside.ring c.write.new.self c.self.inside.plan c.write.ensures (good b).keeps)),
    )

pub returns-else-look : goal.returns-else-look
returns-else-look c =
    let b = (goal.at.returns-else-look c).After-look in (
      false,
      looked-at c.args.place false _ _ _ c.seat.view_is
          (looked-as c.look.new.seat.me c.self.inside.plan c.seat.inside.number.0 false c.args.place _
          (me1 b ∙ ap (λ on. (cpu_view c.self.inside.plan c.seat.inside.number.0 (looked on (known_of c.seat.inside.seat.me.0)), [])) c.if-look.false)
          _ _ c.look.ensures.same.0 c.look.ensures.same.1 (own b) _ refl),
    )
