use Rattle.ft_hist.specs.Telling.{past_at}
use Rattle.trace_views.specs.FunctionViews.{HasFunction}
use Rattle.trace_views.proofs.function.function_lines.Given as goal

abbrev pub invariant-loop-place : goal.invariant-loop-place
invariant-loop-place g l = HasFunction (g.N.Named.job l.names) (past_at l.place l.history.items) l.view
