use Rattle.std.proofs.Common.{◌++◌, reverse, ◌∙◌}
use Rattle.ring_rules.specs.Fold.{fold}
use Rattle.ring_rules.specs.Plan.{plan_of}
use Rattle.trace_views.specs.LineRings.{kept_text}
use Rattle.trace_views.specs.RingLines.{rings_line_text}
use Rattle.trace_views.specs.Words.{lines_text, numbered_texts}
use Rattle.trace_views.proofs.RingBodies.{body-shown, fired-shown, hits-count, rings-count}
use Rattle.trace_views.proofs.ring_view.RingsView.lines.Goals as goal

pub push_rings-requires : goal.push_rings-requires
push_rings-requires c = let r = c.requires in rw c.as_slice.ensures.value (rings-count r.0 r.1 c.args.self.now r.2)

pub push_fired-requires : goal.push_fired-requires
push_fired-requires c = let r = c.requires in hits-count r.0 r.1 c.args.self.now r.2

pub returns : goal.returns
returns c = λ job past told.
    body-shown job past c.args.self.now told _ _
    (c.in_ok-push_rings.ensures job
    ∙ (λ j. lines_text (rings_line_text job) (c.new-lines.ensures.items j) ++ numbered_texts (kept_text job) 0 (c.as_slice.ensures.value j)))
    (c.in_ok-push_fired.ensures job (fold (plan_of job) (reverse past)).fired (fired-shown job past c.args.self.now told))
