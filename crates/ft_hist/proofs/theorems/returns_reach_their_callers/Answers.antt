use Rattle.ft_hist.proofs.ItemLaws.{true-caller, ret-once}
use Rattle.ft_hist.proofs.theorems.returns_reach_their_callers.Goals as goal

pub returns-clause-caller : goal.returns-clause-caller
returns-clause-caller c = λ job items before mid rest call ctx f caller to legal e. true-caller job items before mid rest call ctx f caller to legal e

pub returns-clause-once : goal.returns-clause-once
returns-clause-once c = λ job items before mid rest call ctx f caller to legal e. ret-once job items before mid rest call ctx f caller to legal e
