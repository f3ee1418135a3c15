-- The rule held to the end, so what the seats have made is legal.
use Rattle.std.proofs.Common.{rules, ◌≡◌, ◌+◌, ◌++◌, ◌∷◌, [], List, length, vec_len, refl, sym, ap, ◌∙◌, subst, arith, length-append}
use Rattle.std.proofs.lemmas.List.{length-map}
use Rattle.std.specs.Prelude.{slice_get}
use Rattle.ring_rules.specs.Plan.{IsPlan, TracePlan}
use Rattle.ring_rules.proofs.Lists.{get-more}
use Rattle.ring_table.specs.contracts.seats.RingSeat.{the_view}
use Rattle.ring_table.specs.Seats.{AreCounted, Board, SeatPlace, Shares, SitsAt, shares_of}
use Rattle.ring_table.specs.Views.{known_of}
use Rattle.dealt_seats.specs.Views.{cpu, part}
use Rattle.ring_table.proofs.Closing.{closed-as, closed-none, few-all, none-few}
use Rattle.dealt_seats.proofs.Parts.{get-middle}
use Rattle.ring_table.proofs.Joined.{counted-more, last-parts, made-as, shares-more}
use Rattle.ring_table.proofs.Steps.{good-counted, view-at}
use Rattle.ring_table.proofs.ring.RingTable.close.Goals as goal
use Rattle.ring_table.proofs.ring.RingTable.close.Goals.{After-push, In-Some}

-- the last seat is one of the table's
mine : (c : In-Some) → SitsAt c.args.self c.in-Some.last
mine c =
    (c.requires.each (length c.pop.new.self.items) c.in-Some.last
    (ap (λ (l : List SeatPlace). slice_get l (length c.pop.new.self.items)) c.in-Some.ensures.items
    ∙ get-middle c.pop.new.self.items c.in-Some.last [])).0

pub returns-in_default-pop-clause-legal : goal.returns-in_default-pop-clause-legal
returns-in_default-pop-clause-legal c = λ history of have.
    let plan = ap (λ (b : Board). b.plan) c.self.view_is in
    let none = c.in_default-pop.ensures.cases.0 in
    let count = c.requires.count in
    let e : length c.args.seats.items ≡ vec_len c.args.seats = search rules in
    closed-none c.args.self.plan (subst IsPlan plan c.self.invariant.limits) (omega (arith, none, count, e)) _
    (c.trigger_count.ensures ∙ ap (λ (p : TracePlan). length p.triggers) plan) _ (made-as _ _ [] _ _ c.finish.ensures c.in-Ok.ensures) history of

pub finish-requires : goal.finish-requires
finish-requires c = none-few _ _ (ap (λ (x : Shares). x.fired) c.in-Ok.ensures)

pub join_all-host-requires-clause-host : goal.join_all-host-requires-clause-host
join_all-host-requires-clause-host c =
    let m = mine (goal.at.join_all-host-requires-clause-host c).In-Some in
    let plan = ap (λ (b : Board). b.plan) c.self.view_is in (
      ap (λ (s : SeatPlace). s.table_id) c.last.view_is ∙ m.0 ∙ sym (ap (λ (b : Board). b.table_id) c.self.view_is),
      (
        c.last.inside.number.0,
        known_of c.last.inside.seat.me.0,
        view-at c.last.inside.seat.me c.self.inside.table.shared.key (known_of c.last.inside.seat.me.0) c.last.inside.number.0 c.last.invariant.view'
            (ap (λ (s : SeatPlace). s.plan) c.last.view_is ∙ m.1 ∙ sym plan ∙ sym c.self.invariant.key'),
      ),
    )

pub join_all-host-requires-clause-seats : goal.join_all-host-requires-clause-seats
join_all-host-requires-clause-seats c = λ k s e.
    let m = (c.requires.each k s (ap (λ (l : List SeatPlace). slice_get l k) c.in-Some.ensures.items
    ∙ get-more c.pop.new.self.items c.in-Some.last s k e)).0 in (
      m.0 ∙ sym (ap (λ (b : Board). b.table_id) c.self.view_is),
      m.1 ∙ sym (ap (λ (b : Board). b.plan) c.self.view_is) ∙ sym c.self.invariant.key',
    )

-- there is room for the last seat's
pub join_all-host-requires-clause-empty : goal.join_all-host-requires-clause-empty
join_all-host-requires-clause-empty c =
    let all = ap length c.in-Some.ensures.items in
    let more = length-append c.pop.new.self.items (c.in-Some.last ∷ []) in
    let n : c.len.result ≡ length c.pop.new.self.items + 1 = (let l = c.len.ensures in omega (arith, l, all, more)) in
    c.in-Ok.ensures ∙ ap (shares_of []) n

pub push-requires : goal.push-requires
push-requires c =
    let kept = ap (λ (x : Shares). length x.rings) c.join_all-host.ensures.collected in
    let room = ap (λ (x : Shares). x.room) c.join_all-host.ensures.collected in
    let many = length-map c.pop.new.self.items (λ (s : SeatPlace). s.ring) in
    omega (arith, kept, room, many)

-- the last seat is of the table's plan
own : (c : After-push) → c.last.inside.seat.me.0.job ≡ c.self.inside.table.shared.key
own c =
    let m = (c.requires.each (length c.pop.new.self.items) c.in-Some.last
    (ap (λ (l : List SeatPlace). slice_get l (length c.pop.new.self.items)) c.in-Some.ensures.items
    ∙ get-middle c.pop.new.self.items c.in-Some.last [])).0 in
    ap (λ (s : SeatPlace). s.plan) c.last.view_is ∙ m.1 ∙ sym (ap (λ (b : Board). b.plan) c.self.view_is) ∙ sym c.self.invariant.key'

-- what was collected of all seats
all : (c : After-push) → c.push.new.self ≡ shares_of (c.pop.new.self.items ++ c.in-Some.last ∷ []) (length c.pop.new.self.items + 1)
all c =
    shares-more c.pop.new.self.items c.in-Some.last _ _ _ _ _ c.join_all-host.ensures.collected (ap (λ (s : SeatPlace). s.ring) c.last.view_is)
    (ap (λ (s : SeatPlace). s.fired) c.last.view_is) c.push.ensures

-- the fired places of each are counted
counted : (c : After-push) → AreCounted c.self.inside.table.shared.key (c.pop.new.self.items ++ c.in-Some.last ∷ [])
counted c =
    counted-more _ _ c.pop.new.self.items (the_view c.last.inside) c.in-Some.last c.join_all-host.ensures.counted
    (good-counted (the_view c.last.inside) _ _ _ _ _ _ c.last.invariant.good refl) c.last.view_is
    (own c)

pub finish-requires-2 : goal.finish-requires-2
finish-requires-2 c =
    let b = (goal.at.finish-requires-2 c).After-push in
    few-all c.self.inside.table.shared.key (c.pop.new.self.items ++ c.in-Some.last ∷ []) _ _
    (c.trigger_count-2.ensures ∙ ap (λ (p : TracePlan). length p.triggers) (sym c.self.invariant.key')) (ap (λ (x : Shares). x.fired) (all b))
    (counted b)
    (let many = ap length c.in-Some.ensures.items in
    let count = c.requires.count in
    let cpus = c.self.invariant.limits.cpus in
    let plan = ap (λ (x : Board). x.plan.cpus) c.self.view_is in
    omega (arith, many, count, cpus, plan))

pub returns-clause-legal : goal.returns-clause-legal
returns-clause-legal c = λ history of have.
    let t = c.settle.ensures in
    let b = (goal.at.returns-clause-legal c).After-push in
    let plan = ap (λ (b : Board). b.plan) c.self.view_is in
    let p = c.join_all-host.ensures.parts in
    closed-as c.args.self.plan c.self.inside.table.shared.key (c.self.invariant.key' ∙ plan) t.0 t.1 _ c.args.seats.items
    c.pop.new.self.items c.in-Some.last
    c.in-Some.ensures.items c.requires.count (λ k s e. (c.requires.each k s e).1) (counted b)
    c.join_all-host.result.0.me.0 t.2 c.self.inside.table.shared.key 0
    (last-parts c.last.inside.seat.me c.self.inside.table.shared.key p.0 c.last.inside.number.0 p.1 (known_of c.last.inside.seat.me.0) c.in-Some.last
    c.join_all-host.result.0.me.0 c.pop.new.self.items p.2
    (view-at c.last.inside.seat.me c.self.inside.table.shared.key (known_of c.last.inside.seat.me.0) c.last.inside.number.0 c.last.invariant.view'
    (own b))
    (ap (λ (s : SeatPlace). part (cpu s.number) s.known) c.last.view_is) p.3)
    _ (c.trigger_count-2.ensures ∙ ap (λ (q : TracePlan). length q.triggers) plan) _
    (made-as _ _ (c.pop.new.self.items ++ c.in-Some.last ∷ []) _ _ c.finish-2.ensures (all b))
    history of have
