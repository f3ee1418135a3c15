use Rattle.history_check.specs.Backs.{AreBacksLegalPast}
use Rattle.ft_hist.specs.Telling.{past_at}
use Rattle.history_check.specs.CallbackCheck.{IsCheck}
use Rattle.history_check.proofs.backs.backs_legal.Given as goal

-- the items so far keep the rules, and what is kept is what they tell
abbrev pub invariant-loop-place : goal.invariant-loop-place
invariant-loop-place l = record {
  so_far : AreBacksLegalPast l.job (past_at l.place l.history.items);
  kept : IsCheck l.job (past_at l.place l.history.items) l.check;
}
