-- The rule held to the end, so what the seats have marked is the history of which it spoke.
use Rattle.std.proofs.Common.{sym, ap, ◌∙◌, List, length, subst, arith}
use Rattle.ft_base.specs.declared.item.Item.{Item}
use Rattle.ft_hist.specs.Placing.{ArePlaced, by_place, total}
use Rattle.ft_hist.specs.Rules.{IsLegal, IsWhole}
use Rattle.live_table.specs.Seats.{CpuPlace, IsMadeByTurns, lists_at}
use Rattle.live_table.proofs.Gathering.{Gathered, gathered}
use Rattle.live_table.proofs.live.Live.gather.Goals as goal
use Rattle.live_table.proofs.live.Live.gather.Goals.{After-settle}

all : (c : After-settle) → Gathered c.args.self.job c.args.control c.args.cpus.items
all c =
    let t = c.settle.ensures in
    gathered c.args.self c.args.control c.args.cpus.items _ t.0 _ _ (ap (λ b. b.job) c.self.view_is) c.requires.control.1 c.requires.cpus t.1 t.2
    c.join_all-seat.ensures.parts c.order-order.ensures.once c.order-order.ensures.led

pub merge-requires-clause-empty : goal.merge-requires-clause-empty
merge-requires-clause-empty c = c.in-Ok.ensures.empty.0

pub merge-requires-clause-space : goal.merge-requires-clause-space
merge-requires-clause-space c =
    let few = (all (goal.at.merge-requires-clause-space c).After-settle).few in
    let many = ap total c.join_all-seat.ensures.lists in
    let same = ap (λ (cpus : List CpuPlace). total (lists_at c.args.control cpus)) c.as_slice.ensures.value in
    let room = c.in-Ok.ensures.items (omega (arith, few, same)) in
    omega (arith, many, same, room)

pub merge-requires-clause-places : goal.merge-requires-clause-places
merge-requires-clause-places c =
    subst (λ ls. ArePlaced (total ls) ls) (sym c.join_all-seat.ensures.lists) (all (goal.at.merge-requires-clause-places c).After-settle).placed

pub returns-clause-placed : goal.returns-clause-placed
returns-clause-placed c =
    let same = c.merge.ensures ∙ ap by_place c.join_all-seat.ensures.lists in
    let has = all (goal.at.returns-clause-placed c).After-settle in
    subst (λ n. ArePlaced n (lists_at c.args.control c.args.cpus.items)) (sym (ap (λ (items : List Item). length items) same ∙ has.as_many)) has.placed

pub returns-clause-turns : goal.returns-clause-turns
returns-clause-turns c =
    let same = c.merge.ensures ∙ ap by_place c.join_all-seat.ensures.lists in
    subst (IsMadeByTurns c.args.control.led) (sym same) (all (goal.at.returns-clause-turns c).After-settle).turns

pub returns-clause-legal : goal.returns-clause-legal
returns-clause-legal c =
    let same = c.merge.ensures ∙ ap by_place c.join_all-seat.ensures.lists in
    subst (IsLegal c.args.control.led) (sym same) (all (goal.at.returns-clause-legal c).After-settle).legal

pub returns-clause-whole : goal.returns-clause-whole
returns-clause-whole c =
    let same = c.merge.ensures ∙ ap by_place c.join_all-seat.ensures.lists in
    λ over. subst (IsWhole c.args.control.led) (sym same) ((all (goal.at.returns-clause-whole c).After-settle).whole' over)
