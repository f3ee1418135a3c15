use Rattle.ft_hist.proofs.ExitItems.{exit-or-why}
use Rattle.ft_hist.proofs.theorems.exits_lack_only_for_a_reason.Goals as goal

pub returns : goal.returns
returns c = λ job items first second rest call user to legal e. exit-or-why job items first second rest call user to legal e
