use Rattle.ft_hist.proofs.Splitting.{splits, joins}
use Rattle.ft_hist.proofs.theorems.legal_at_every_place.Goals as goal

pub returns : goal.returns
returns c = λ job items. ((λ l before item after e. splits job items before item after l e), joins job items)
