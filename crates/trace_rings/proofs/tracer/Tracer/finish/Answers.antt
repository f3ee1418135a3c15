-- The one part has all places.
use Rattle.std.proofs.Common.{◌≡◌, ℕ, List, length, sym, ap, ◌∙◌}
use Rattle.std.specs.Global.{Vec}
use Rattle.ring_rules.specs.Gathered.{lists_of, part_lists, rings_in, rings_of}
use Rattle.ring_rules.proofs.Parts.{one-part}
use Rattle.trace_rings.specs.Traced.{Traced}
use Rattle.trace_rings.proofs.tracer.Tracer.finish.Goals as goal

pub returns : goal.returns
returns c =
    let count : length (lists_of c.self.inside.fired.items) ≡ c.trigger_count.result =
    ap (λ (t : Traced). length t.so_far.rings.fired) c.self.view_is ∙ c.requires.plan.fired ∙ sym c.trigger_count.ensures in
    c.new.ensures
    ∙ ap (λ (l : List (Vec (Vec ℕ))). rings_of c.trigger_count.result c.self.inside.rings.items (part_lists l)) c.in_ok-parts.ensures
    ∙ (λ j. record {
      cpus = rings_in c.self.inside.rings.items;
      fired = one-part c.trigger_count.result (lists_of c.self.inside.fired.items) count j;
    })
    ∙ ap (λ (t : Traced). t.so_far.rings) c.self.view_is
