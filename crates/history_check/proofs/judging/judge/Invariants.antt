use Rattle.ft_hist.specs.Rules.{IsLegalPast}
use Rattle.ft_hist.specs.Telling.{past_at}
use Rattle.history_check.specs.JudgePast.{IsPast}
use Rattle.history_check.proofs.judging.judge.Given as goal

-- the items so far are legal, and what is kept is what they tell
abbrev pub invariant-loop-item : goal.invariant-loop-item
invariant-loop-item l = record {
  so_far : IsLegalPast l.job (past_at l.item-index l.items);
  kept : IsPast l.job (past_at l.item-index l.items) l.past;
}
