use Rattle.ft_hist.specs.Telling.{past_at}
use Rattle.fttell.specs.Telling.{HasToldOf}
use Rattle.fttell.proofs.items.tell_read.Given as goal

-- the items so far were told, and no others
abbrev pub invariant-loop-item : goal.invariant-loop-item
invariant-loop-item g l = HasToldOf g.K.Sink.holds g.K.Sink.faults l.job (past_at l.item-index l.item-items) l.initial.telling l.telling
