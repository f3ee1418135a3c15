use Rattle.std.proofs.Common.{◌≡◌, ◌++◌, drop}
use Rattle.ft_base.specs.Job.{Job}
use Rattle.trace_views.specs.OpenCalls.{function_line_text}
use Rattle.trace_views.specs.RingLines.{rings_line_text}
use Rattle.trace_views.specs.LineRings.{kept_text}
use Rattle.trace_views.specs.Words.{lines_text}
use Rattle.trace_views.proofs.line_ring.LineRing.push_lines.Given as goal

abbrev pub invariant-loop-i : goal.invariant-loop-i
invariant-loop-i l =
    (job : Job) → lines_text (rings_line_text job) l.lines.items ++ lines_text (function_line_text job) (drop l.i l.self.lines)
    ≡ lines_text (rings_line_text job) l.fn.lines.items ++ kept_text job l.cpu l.self
