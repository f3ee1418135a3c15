use Rattle.ft_hist.proofs.ExitItems.{exit-after}
use Rattle.ft_hist.proofs.theorems.exits_come_in_order.Goals as goal

pub returns : goal.returns
returns c = λ job items a b c call user user' entry entry' legal e. exit-after job items a b c call user user' entry entry' legal e
