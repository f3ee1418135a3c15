use Rattle.ft_hist.proofs.ItemLaws.{recursion-cause, back-free}
use Rattle.ft_hist.proofs.theorems.refused_in_a_callback.Goals as goal

pub returns-clause-refuse : goal.returns-clause-refuse
returns-clause-refuse c = λ job items before mid rest call ctx f caller user legal e. recursion-cause job items before mid rest call ctx f caller user legal e

pub returns-clause-back : goal.returns-clause-back
returns-clause-back c = λ job items before mid rest call ctx f caller user legal e. back-free job items before mid rest call ctx f caller user legal e
