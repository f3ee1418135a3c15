use Rattle.ft_hist.proofs.ExitItems.{exit-of}
use Rattle.ft_hist.proofs.theorems.exits_belong_to_their_registration.Goals as goal

pub returns : goal.returns
returns c = λ job items first rest call user entry legal e. exit-of job items first rest call user entry legal e
