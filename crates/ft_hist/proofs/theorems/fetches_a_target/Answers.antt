use Rattle.ft_hist.proofs.ItemOrders.{ran-target}
use Rattle.ft_hist.proofs.theorems.fetches_a_target.Goals as goal

pub returns : goal.returns
returns c = λ job items before mid rest call ctx f caller g ran legal e. ran-target job items before mid rest call ctx f caller g ran legal e
