use Rattle.std.proofs.Common.{length, sym, ap, ◌∙◌, arith}
use Rattle.std.specs.Prelude.{slice_index}
use Rattle.ring_rules.specs.Fold.{Rings}
use Rattle.ring_rules.specs.Gathered.{places_of}
use Rattle.ring_rules.specs.Legal.{fired_at}
use Rattle.ring_rules.proofs.Parts.{fired-as}
use Rattle.ring_rules.proofs.rings.Rings.fired_at.Goals as goal

pub returns : goal.returns
returns c =
    let e = ap (λ (r : Rings). length r.fired) c.self.view_is in
    let r = c.requires.trigger in
    c.nth_place.ensures
    ∙ ap (λ l. slice_index (places_of c.args.trigger l) c.args.i) c.as_slice.ensures.value
    ∙ sym (ap (λ l. slice_index l c.args.i) (fired-as c.self.inside.triggers c.args.trigger c.self.inside.fired.items (omega (arith, e, r))))
    ∙ ap (λ (x : Rings). slice_index (fired_at x.fired c.args.trigger) c.args.i) c.self.view_is
