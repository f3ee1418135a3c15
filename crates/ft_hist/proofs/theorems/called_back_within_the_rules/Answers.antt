use Rattle.ft_hist.proofs.ItemLaws.{back-allowed, back-shallow}
use Rattle.ft_hist.proofs.theorems.called_back_within_the_rules.Goals as goal

pub returns-clause-pid : goal.returns-clause-pid
returns-clause-pid c = λ job items before mid rest call ctx f caller user legal e flag. back-allowed job items before mid rest call ctx f caller user legal e flag

pub returns-clause-depth : goal.returns-clause-depth
returns-clause-depth c = λ job items before mid rest call ctx f caller user legal e kind. back-shallow job items before mid rest call ctx f caller user legal e kind
