use Rattle.ft_hist.proofs.ItemOrders.{once}
use Rattle.ft_hist.proofs.theorems.visits_are_once_each.Goals as goal

pub returns : goal.returns
returns c = λ job items first second third x y call u legal e there. once job items first second third x y legal e call u there
