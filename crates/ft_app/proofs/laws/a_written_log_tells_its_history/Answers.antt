use Rattle.ft_app.proofs.WrittenLogs.{same-history}
use Rattle.ft_app.proofs.laws.a_written_log_tells_its_history.Goals as goal

pub returns : goal.returns
returns c = λ order given left before after a b logged. same-history given left before after order a b logged
