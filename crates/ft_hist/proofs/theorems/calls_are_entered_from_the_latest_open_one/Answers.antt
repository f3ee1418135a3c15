use Rattle.ft_hist.proofs.EnteredOnce.{from-latest}
use Rattle.ft_hist.proofs.theorems.calls_are_entered_from_the_latest_open_one.Goals as goal

pub returns : goal.returns
returns c = λ job items first rest call ctx f caller legal e. from-latest job items first rest call ctx f caller legal e
