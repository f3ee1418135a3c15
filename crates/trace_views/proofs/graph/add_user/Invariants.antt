use Rattle.std.proofs.Common.{◌≡◌, [], ◌++◌, drop}
use Rattle.ft_hist.specs.Telling.{past_at}
use Rattle.trace_views.specs.Words.{item_texts, lines_text}
use Rattle.trace_views.specs.GraphText.{graph_part}
use Rattle.trace_views.specs.GraphLines.{IsWalkAt, graph_line_text}
use Rattle.trace_views.proofs.graph.add_user.Given as goal

-- the texts so far, with those of the items to come, are all; and the walk has come as far
abbrev pub invariant-loop-place : goal.invariant-loop-place
invariant-loop-place g l = record {
  kept : IsWalkAt (g.N.Named.job l.names) l.user.0 l.place l.history.items l.walk;
  so_far : lines_text (graph_line_text (g.N.Named.job l.names)) l.lines.items ++ item_texts (graph_part (g.N.Named.job l.names) l.user.0) (past_at l.place l.history.items) (drop l.place l.history.items)
      ≡ lines_text (graph_line_text (g.N.Named.job l.names)) l.fn.lines.items ++ item_texts (graph_part (g.N.Named.job l.names) l.user.0) [] l.history.items;
}
