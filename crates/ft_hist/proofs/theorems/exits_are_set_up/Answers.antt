use Rattle.ft_hist.proofs.ExitItems.{exit-set-up}
use Rattle.ft_hist.proofs.theorems.exits_are_set_up.Goals as goal

pub returns : goal.returns
returns c = λ job items first rest call user entry legal e. exit-set-up job items first rest call user entry legal e
