use Rattle.ft_hist.specs.Telling.{past_at}
use Rattle.trace_views.specs.ProfileViews.{HasProfile}
use Rattle.trace_views.proofs.profile.profile_lines.Given as goal

abbrev pub invariant-loop-place : goal.invariant-loop-place
invariant-loop-place g l = HasProfile (g.N.Named.job l.names) (past_at l.place l.history.items) l.view
