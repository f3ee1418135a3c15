use Rattle.std.proofs.Common.{◌≡◌, ◌++◌, ◌-◌}
use Rattle.ft_base.specs.Job.{funcs}
use Rattle.trace_views.specs.Words.{lines_text}
use Rattle.trace_views.specs.EnabledText.{enabled_line_text, enabled_lines}
use Rattle.trace_views.proofs.enabled.push_lines.Given as goal

abbrev pub invariant-loop-f : goal.invariant-loop-f
invariant-loop-f g l =
    lines_text (enabled_line_text (g.N.Named.job l.names)) l.lines.items ++ enabled_lines (g.N.Named.job l.names) l.desk.state l.f (funcs (g.N.Named.job l.names) - l.f)
    ≡ lines_text (enabled_line_text (g.N.Named.job l.names)) l.initial.lines.items ++ enabled_lines (g.N.Named.job l.names) l.desk.state 0 (funcs (g.N.Named.job l.names))
