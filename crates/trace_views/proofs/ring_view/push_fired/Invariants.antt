use Rattle.std.proofs.Common.{◌≡◌, ℕ, List, ◌++◌, drop}
use Rattle.ft_base.specs.Job.{Job}
use Rattle.trace_views.specs.RingLines.{rings_line_text}
use Rattle.trace_views.specs.RingViews.{IsFiredBy}
use Rattle.trace_views.specs.RingsText.{trigger_text}
use Rattle.trace_views.specs.Words.{lines_text, numbered_texts}
use Rattle.trace_views.proofs.ring_view.push_fired.Given as goal

abbrev pub invariant-loop-trigger : goal.invariant-loop-trigger
invariant-loop-trigger l =
    (job : Job) (fired : List (List ℕ)) → IsFiredBy l.plan l.switch.hits.items fired
    → lines_text (rings_line_text job) l.lines.items ++ numbered_texts trigger_text l.trigger (drop l.trigger fired)
    ≡ lines_text (rings_line_text job) l.fn.lines.items ++ numbered_texts trigger_text 0 fired
