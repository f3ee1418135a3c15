use Rattle.std.proofs.Common.{◌++◌, ◌∷◌, [], List, ℕ, set, sym, ap, ◌∙◌}
use Rattle.std.specs.Prelude.{vec_capacity}
use Rattle.std.specs.Global.{Vec}
use Rattle.std.proofs.lemmas.List.{map-set}
use Rattle.std.proofs.Math.Seq.{map-set_same}
use Rattle.ring_rules.specs.Gathered.{lists_of}
use Rattle.ring_table.proofs.Steps.{at-lists}
use Rattle.ring_table.proofs.seats.note.Goals as goal

pub returns-clause-lists : goal.returns-clause-lists
returns-clause-lists c =
    map-set (λ (v : Vec ℕ). v.items) c.args.fired.now.items c.args.i c.push_reserved.new.self
    ∙ ap (λ l. set (lists_of c.args.fired.now.items) c.args.i l)
    (c.push_reserved.ensures.items
    ∙ ap (λ (l : List ℕ). l ++ c.args.place ∷ [])
    (ap (λ (v : Vec ℕ). v.items) c.index_mut.ensures.value ∙ sym (at-lists c.args.fired.now.items c.args.i c.index_mut.result.now c.requires.list)))

pub returns-clause-spaces : goal.returns-clause-spaces
returns-clause-spaces c =
    map-set_same (λ (v : Vec ℕ). vec_capacity v) c.args.fired.now.items c.args.i c.push_reserved.new.self c.index_mut.result.now
    (c.push_reserved.ensures.capacity ∙ ap (λ (v : Vec ℕ). vec_capacity v) c.index_mut.ensures.value)
