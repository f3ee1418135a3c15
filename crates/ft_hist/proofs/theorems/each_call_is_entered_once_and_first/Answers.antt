use Rattle.ft_hist.proofs.EnteredOnce.{enters-first, enters-once}
use Rattle.ft_hist.proofs.theorems.each_call_is_entered_once_and_first.Goals as goal

pub returns-clause-first : goal.returns-clause-first
returns-clause-first c = λ job items first rest call x legal e is other. enters-first job items first rest call x legal e is other

pub returns-clause-once : goal.returns-clause-once
returns-clause-once c = λ job items a b c call ctx ctx' f f' caller caller' legal. enters-once job items a b c call ctx ctx' f f' caller caller' legal
