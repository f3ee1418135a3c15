use Rattle.std.proofs.Common.{List, ℕ, ◌≡◌, ◌∙◌, ap, sym, subst}
use Rattle.desk_lock.specs.Journals.{IsMerge}
use Rattle.live_table.specs.Seats.{Board, ControlPlace}
use Rattle.live_seats.specs.Seatings.{own_seats}
use Rattle.live_lanes.specs.LaneItems.{as_items}
use Rattle.live_lanes.proofs.Conducting.{conducted_first}
use Rattle.live_lanes.proofs.conduct.conduct_as.Goals as goal

pub invariant_of-value : goal.invariant_of-value
invariant_of-value g c =
    let n = c.requires.names in
    conducted_first g.N.TableNames.board c.args.live.now g.N.LaneNames.counts c.args.counts.now g.N.LaneNames.name c.args.lanes.now
    g.N.TableNames.here (own_seats c.args.here.items) c.args.control n.0 n.1 n.2 n.3 c.requires.ready c.requires.here

pub returns-clause-order : goal.returns-clause-order
returns-clause-order g c =
    let v = c.conduct-value.result in
    let k = c.keeps.ensures in
    let same : v.lanes ≡ c.args.lanes.now = k.lanes' ∙ ap (λ (b : Board). b.job.lines.lanes) c.requires.names.0 ∙ sym c.requires.ready.lanes' in
    let merge : IsMerge c.args.counts.now (as_items v.lanes v.control.order) =
    subst (λ (n : List ℕ). IsMerge n (as_items v.lanes v.control.order)) c.requires.names.1 c.conduct-value.ensures in
    subst (λ (p : ControlPlace). IsMerge c.args.counts.now (as_items c.args.lanes.now p.order)) (sym c.into_seats.ensures.0)
    (subst (λ (l : List ℕ). IsMerge c.args.counts.now (as_items l v.control.order)) same merge)
