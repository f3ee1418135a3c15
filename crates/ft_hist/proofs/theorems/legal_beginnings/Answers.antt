use Rattle.ft_hist.proofs.Splitting.{legal-front}
use Rattle.ft_hist.proofs.theorems.legal_beginnings.Goals as goal

pub returns : goal.returns
returns c = legal-front
