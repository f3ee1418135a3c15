use Rattle.std.proofs.Common.{◌<◌, length, sym, ap, ◌∙◌, arith}
use Rattle.ring_rules.specs.Fold.{Rings}
use Rattle.ring_rules.specs.Gathered.{part_lists, places_of}
use Rattle.ring_rules.specs.Legal.{fired_at}
use Rattle.ring_rules.proofs.Parts.{fired-as, fired-count, same-places}
use Rattle.ring_rules.proofs.rings.Rings.fired.Goals as goal

pub count_places-requires : goal.count_places-requires
count_places-requires c =
    let n = fired-count c.self.inside.triggers (part_lists c.self.inside.fired.items) in
    let e = ap (λ (r : Rings). length r.fired) c.self.view_is in
    let lt : c.args.trigger < c.self.inside.triggers = (let r = c.requires in omega (arith, n, e, r)) in
    let few = c.self.invariant c.args.trigger lt in
    let same = ap length (same-places c.args.trigger c.self.inside.fired.items) in
    let slice = ap (λ l. length (places_of c.args.trigger l)) c.as_slice.ensures.value in
    omega (arith, few, same, slice)

pub returns : goal.returns
returns c =
    let e = ap (λ (r : Rings). length r.fired) c.self.view_is in
    let r = c.requires in
    c.count_places.ensures
    ∙ ap (λ l. length (places_of c.args.trigger l)) c.as_slice.ensures.value
    ∙ sym (ap length (fired-as c.self.inside.triggers c.args.trigger c.self.inside.fired.items (omega (arith, e, r))))
    ∙ ap (λ (x : Rings). length (fired_at x.fired c.args.trigger)) c.self.view_is
