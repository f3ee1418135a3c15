use Rattle.ft_hist.proofs.ExitLevels.{exit-finds}
use Rattle.ft_hist.proofs.theorems.exits_find_a_level.Goals as goal

pub returns : goal.returns
returns c = λ job items before mid rest call ctx f caller user entry legal e. exit-finds job items before mid rest call ctx f caller user entry legal e
