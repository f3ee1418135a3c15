use Rattle.std.proofs.Common.{ℕ, List, ◌≤◌, ◌∙◌, ap, sym, subst, [], sum, length, vec_capacity, arith}
use Rattle.ft_base.specs.declared.limits.TheConstants.{LANES}
use Rattle.desk_lock.specs.declared.served.Served1.{Served1}
use Rattle.desk_lock.specs.LockInvariant.{LockInvariant, lanes_from}
use Rattle.desk_lock.proofs.Keeping.{held_first}
use Rattle.desk_lock.proofs.turns.Turns.new.Goals as goal

pub invariant_of-locked : goal.invariant_of-locked
invariant_of-locked g c =
    let r = c.requires in
    let enough : sum g.N.LaneNames.counts ≤ vec_capacity c.in-Ok.journal =
    let e = ap (λ (l : List ℕ). sum l) r.counts.0 in let t = c.total.ensures in let k = c.in-Ok.ensures.capacity in omega (arith, e, t, k) in
    subst (λ (j : List Served1). LockInvariant g.N.LaneNames.counts g.N.LaneNames.name (g.T.Served.counts c.args.value) (g.T.Served.name c.args.value) (g.T.Served.served c.args.value) j c.in-Ok-first_lanes.lanes.items (vec_capacity c.in-Ok.journal))
    (sym c.in-Ok.ensures.items)
    (held_first g.N.LaneNames.counts g.N.LaneNames.name (g.T.Served.counts c.args.value) (g.T.Served.name c.args.value) (g.T.Served.served c.args.value) c.in-Ok-first_lanes.lanes.items (vec_capacity c.in-Ok.journal)
    r.counts.1 r.name r.fresh (c.in-Ok-first_lanes.ensures ∙ ap (λ (l : List ℕ). lanes_from 0 l []) r.counts.0) (subst (λ (l : List ℕ). length l ≤ LANES) r.counts.0 r.lanes) enough)
