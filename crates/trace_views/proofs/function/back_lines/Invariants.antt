use Rattle.ft_hist.specs.Telling.{past_at}
use Rattle.trace_views.specs.OpenCalls.{IsFollowed}
use Rattle.trace_views.specs.RingLines.{AreBackLines}
use Rattle.trace_views.proofs.function.back_lines.Given as goal

abbrev pub invariant-loop-place : goal.invariant-loop-place
invariant-loop-place g l = record {
  calls : IsFollowed (g.N.Named.job l.names) (past_at l.place l.history.items) l.«open»;
  lines' : AreBackLines (g.N.Named.job l.names) l.history.items l.place l.lines.items;
}
