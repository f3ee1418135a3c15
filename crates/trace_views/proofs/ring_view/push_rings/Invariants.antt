use Rattle.std.proofs.Common.{◌≡◌, ◌++◌, drop}
use Rattle.ft_base.specs.Job.{Job}
use Rattle.trace_views.specs.RingLines.{rings_line_text}
use Rattle.trace_views.specs.LineRings.{kept_text}
use Rattle.trace_views.specs.Words.{lines_text, numbered_texts}
use Rattle.trace_views.proofs.ring_view.push_rings.Given as goal

abbrev pub invariant-loop-cpu : goal.invariant-loop-cpu
invariant-loop-cpu l =
    (job : Job) → lines_text (rings_line_text job) l.lines.items ++ numbered_texts (kept_text job) l.cpu (drop l.cpu l.rings)
    ≡ lines_text (rings_line_text job) l.fn.lines.items ++ numbered_texts (kept_text job) 0 l.rings
