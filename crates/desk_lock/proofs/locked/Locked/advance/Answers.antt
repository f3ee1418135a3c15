use Rattle.std.proofs.Common.{◌≡◌, ◌∙◌, ◌++◌, ◌+◌, [], ◌∷◌, ℕ, List, slice_index, refl, sym, ap, subst, set, arith}
use Rattle.std.proofs.lemmas.List.{get_or_default}
use Rattle.desk_lock.specs.declared.served.Served1.{Served1}
use Rattle.desk_lock.specs.declared.lane.Lane.{Lane}
use Rattle.desk_lock.specs.Journals.{done_of, next_of, pair}
use Rattle.desk_lock.specs.LockInvariant.{LockInvariant}
use Rattle.desk_lock.proofs.Keeping.{held_below, held_count, held_more, held_next, held_of, held_room, none_left}
use Rattle.desk_lock.proofs.locked.Locked.advance.Goals as goal

pub index-requires : goal.index-requires
index-requires g c = let n = held_count c.self.invariant in omega (arith, n, c.requires, c.self.inside.lanes.ok.0)

-- the lane has no more items
pub returns-then-next-count-clause-left : goal.returns-then-next-count-clause-left
returns-then-next-count-clause-left g c =
    let view = ap (λ h. h.journal) c.self.view_is in
    let next = held_next c.self.invariant c.requires c.index.ensures in
    let count = held_of c.self.invariant c.requires c.index.ensures in
    none_left _ _ (sym (ap (done_of c.args.lane) view) ∙ sym next ∙ c.if-next-count.true ∙ count)

pub returns-then-next-count-clause-all : goal.returns-then-next-count-clause-all
returns-then-next-count-clause-all g c =
    let view = ap (λ h. h.journal) c.self.view_is in
    let next = held_next c.self.invariant c.requires c.index.ensures in
    let count = held_of c.self.invariant c.requires c.index.ensures in
    sym (ap (done_of c.args.lane) view) ∙ sym next ∙ c.if-next-count.true ∙ count

-- the lane has a next item
pub serve-requires-clause-next : goal.serve-requires-clause-next
serve-requires-clause-next g c = held_next c.self.invariant c.requires c.index.ensures ∙ ap (done_of c.args.lane) (sym c.self.invariant.served')

pub serve-requires-clause-below : goal.serve-requires-clause-below
serve-requires-clause-below g c =
    let below = held_below c.self.invariant c.requires c.index.ensures in
    let count = held_of c.self.invariant c.requires c.index.ensures in
    let own = ap (λ (l : List ℕ). slice_index l c.args.lane) c.self.invariant.counts' in
    let differ = c.if-next-count.false in
    omega (arith, below, count, own, differ)

pub overflow_add-next : goal.overflow_add-next
overflow_add-next g c =
    let below = held_below c.self.invariant c.requires c.index.ensures in
    let differ = c.if-next-count.false in
    omega (arith, below, differ)

pub index_mut-requires : goal.index_mut-requires
index_mut-requires g c = let n = held_count c.self.invariant in omega (arith, n, c.requires, c.self.inside.lanes.ok.0)

pub push_reserved-requires : goal.push_reserved-requires
push_reserved-requires g c =
    let below = held_below c.self.invariant c.requires c.index.ensures in
    let differ = c.if-next-count.false in
    let room = held_room c.self.invariant c.requires c.index.ensures (omega (arith, below, differ)) in
    omega (arith, room, c.self.inside.journal.ok.0)

pub invariant_of-self : goal.invariant_of-self
invariant_of-self g c =
    let s = c.self.inside in
    let below = held_below c.self.invariant c.requires c.index.ensures in
    let differ = c.if-next-count.false in
    let e = c.serve.ensures in
    let same : c.index_mut.result.now ≡ c.index.result.now =
    c.index_mut.ensures.value
    ∙ get_or_default s.lanes.items c.args.lane c.index_mut.result.now c.index.result.now (let n = held_count c.self.invariant in omega (arith, n, c.requires))
    ∙ sym c.index.ensures in
    subst (LockInvariant g.N.LaneNames.counts g.N.LaneNames.name (g.T.Served.counts c.serve.new.self) (g.T.Served.name c.serve.new.self) (g.T.Served.served c.serve.new.self) c.push_reserved.new.self.items _)
    (sym c.push_reserved.ensures.capacity)
    (held_more c.self.invariant c.requires c.index.ensures (omega (arith, below, differ)) e.counts e.name e.served c.push_reserved.ensures.items
    (ap (λ (l : Lane). set s.lanes.items c.args.lane (record { count = l.count; next = c.index.result.now.next + 1 })) same))

pub returns-clause-left : goal.returns-clause-left
returns-clause-left g c =
    let view = ap (λ h. h.journal) c.self.view_is in
    let next = held_next c.self.invariant c.requires c.index.ensures in
    let count = held_of c.self.invariant c.requires c.index.ensures in
    let below = held_below c.self.invariant c.requires c.index.ensures in
    let differ = c.if-next-count.false in
    let done = ap (done_of c.args.lane) view in
    ((λ _. omega (arith, below, differ, next, count, done)), λ _. refl)

pub returns-clause-served : goal.returns-clause-served
returns-clause-served g c =
    let view = ap (λ h. h.journal) c.self.view_is in
    let next = held_next c.self.invariant c.requires c.index.ensures in
    let grown : c.push_reserved.new.self.items ≡ c.self.inside.journal.items ++ next_of c.args.lane c.self.inside.journal.items ∷ [] =
    c.push_reserved.ensures.items ∙ ap (λ (i : ℕ). c.self.inside.journal.items ++ pair c.args.lane i ∷ []) next in
    subst (λ (j : List Served1). c.push_reserved.new.self.items ≡ j ++ next_of c.args.lane j ∷ []) view grown
