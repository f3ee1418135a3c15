use Rattle.std.proofs.Common.{◌++◌, ◌∷◌, [], List, ℕ, set, sym, ap, ◌∙◌}
use Rattle.std.specs.Global.{Vec}
use Rattle.std.proofs.lemmas.List.{map-set}
use Rattle.ring_rules.specs.Gathered.{lists_of}
use Rattle.trace_rings.proofs.Folds.{at-lists}
use Rattle.trace_rings.proofs.tracer.push_place.Goals as goal

pub returns-in-Ok : goal.returns-in-Ok
returns-in-Ok c =
    map-set (λ (v : Vec ℕ). v.items) c.args.fired.now.items c.args.i c.push.new.self
    ∙ ap (λ l. set (lists_of c.args.fired.now.items) c.args.i l)
    (c.in-Ok.ensures.items
    ∙ ap (λ (l : List ℕ). l ++ c.args.place ∷ [])
    (ap (λ (v : Vec ℕ). v.items) c.index_mut.ensures.value ∙ sym (at-lists c.args.fired.now.items c.args.i c.index_mut.result.now c.requires)))
