use Rattle.ft_hist.proofs.ItemLaws.{pid-cause}
use Rattle.ft_hist.proofs.theorems.refused_for_its_pid.Goals as goal

pub returns : goal.returns
returns c = λ job items before mid rest call ctx f caller user legal e. pid-cause job items before mid rest call ctx f caller user legal e
