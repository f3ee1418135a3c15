use Rattle.std.proofs.Common.{length, sym, ap, ◌∙◌}
use Rattle.ring_rules.specs.Fold.{Rings}
use Rattle.ring_rules.specs.Gathered.{part_lists}
use Rattle.ring_rules.proofs.Parts.{fired-count}
use Rattle.ring_rules.proofs.rings.Rings.triggers.Goals as goal

pub returns : goal.returns
returns c = sym (fired-count c.self.inside.triggers (part_lists c.self.inside.fired.items)) ∙ ap (λ (r : Rings). length r.fired) c.self.view_is
