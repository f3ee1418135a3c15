use Rattle.std.proofs.Common.{◌≡◌, ◌++◌, drop}
use Rattle.trace_views.specs.Words.{numbered_texts, lines_text}
use Rattle.trace_views.specs.GraphText.{user_graph}
use Rattle.trace_views.specs.GraphLines.{graph_line_text}
use Rattle.trace_views.proofs.graph.graph_lines.Given as goal

-- the texts so far, with those of the users to come, are all
abbrev pub invariant-loop-u : goal.invariant-loop-u
invariant-loop-u g l = lines_text (graph_line_text (g.N.Named.job l.names)) l.lines.items ++ numbered_texts (user_graph (g.N.Named.job l.names) l.history.items) l.u (drop l.u (g.N.Named.job l.names).users) ≡ numbered_texts (user_graph (g.N.Named.job l.names) l.history.items) 0 (g.N.Named.job l.names).users
