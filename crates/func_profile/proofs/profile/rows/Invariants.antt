use Rattle.std.proofs.Common.{length, ◌≡◌}
use Rattle.ft_hist.specs.Telling.{past_at}
use Rattle.func_profile.specs.Tallies.{IsTally}
use Rattle.func_profile.proofs.profile.rows.Given as goal

-- what is kept is what the items so far tell
abbrev pub invariant-loop-place : goal.invariant-loop-place
invariant-loop-place l = record {
  functions : length l.tally.table.rows.items ≡ l.funcs;
  so_far : IsTally l.user.0 l.funcs (past_at l.place l.history.items) l.tally;
}
