use Rattle.ft_hist.proofs.ItemLaws.{depth-cause}
use Rattle.ft_hist.proofs.theorems.refused_for_depth.Goals as goal

pub returns : goal.returns
returns c = λ job items before mid rest call ctx f caller user legal e. depth-cause job items before mid rest call ctx f caller user legal e
