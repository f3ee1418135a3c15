use Rattle.std.proofs.Common.{◌≡◌, ◌<◌, ◌∙◌, [], ◌∷◌, ◌++◌, ℕ, List, ap, sym, refl, subst, arith, slice_index, length}
use Rattle.threads_tests.specs.Noted.{Noted}
use Rattle.desk_lock.specs.declared.served.Served1.{Served1}
use Rattle.desk_lock.specs.declared.lane.Lane.{Lane}
use Rattle.desk_lock.specs.LockInvariant.{LockInvariant, lanes_from}
use Rattle.desk_lock.specs.Journals.{done_of, pair}
use Rattle.desk_lock.proofs.Keeping.{lane_at, lanes_set_at, held_more, held_room}
use Rattle.threads_tests.proofs.tests.lanes.notes.NotesServed.serve.Goals as goal

more : {counts : List ℕ} {j k : List Served1} {room l i : ℕ} → LockInvariant counts [] counts [] j j (lanes_from 0 counts j) room → l < length counts → i ≡ done_of l j → i < slice_index counts l → k ≡ j ++ pair l i ∷ []
    → LockInvariant counts [] counts [] k k (lanes_from 0 counts k) room
more {counts = counts} {j = j} {k = k} {l = l} h lt is below grown =
    let x : Lane = record { count = slice_index counts l; next = done_of l j } in
    let grown' : k ≡ j ++ pair l (done_of l j) ∷ [] = grown ∙ ap (λ (n : ℕ). j ++ pair l n ∷ []) is in
    held_more {x = x} h lt (sym (lane_at counts j l lt x)) (omega (arith, is, below)) refl refl grown' grown' (ap (lanes_from 0 counts) grown' ∙ lanes_set_at counts j l lt)

room : {counts : List ℕ} {j : List Served1} {room l i : ℕ} → LockInvariant counts [] counts [] j j (lanes_from 0 counts j) room → l < length counts → i ≡ done_of l j → i < slice_index counts l → length j < room
room {counts = counts} {j = j} {l = l} h lt is below =
    let x : Lane = record { count = slice_index counts l; next = done_of l j } in
    held_room {x = x} h lt (sym (lane_at counts j l lt x)) (omega (arith, is, below))

pub push_reserved-requires : goal.push_reserved-requires
push_reserved-requires g c =
    let r = c.requires in
    let v = sym c.self.view_is in
    let few = room c.self.invariant (subst (λ (n : Noted). c.args.lane < length n.counts) v r.lane) (subst (λ (n : Noted). c.args.item ≡ done_of c.args.lane n.served) v r.next)
    (subst (λ (n : Noted). c.args.item < slice_index n.counts c.args.lane) v r.below) in
    omega (arith, few, c.self.inside.served.ok.0)

pub invariant_of-self : goal.invariant_of-self
invariant_of-self g c =
    let s = c.self.inside in
    let r = c.requires in
    let v = sym c.self.view_is in
    subst (LockInvariant s.counts.items [] s.counts.items [] c.push_reserved.new.self.items c.push_reserved.new.self.items (lanes_from 0 s.counts.items c.push_reserved.new.self.items)) (sym c.push_reserved.ensures.capacity)
    (more c.self.invariant (subst (λ (n : Noted). c.args.lane < length n.counts) v r.lane) (subst (λ (n : Noted). c.args.item ≡ done_of c.args.lane n.served) v r.next)
    (subst (λ (n : Noted). c.args.item < slice_index n.counts c.args.lane) v r.below) c.push_reserved.ensures.items)
