use Rattle.machine_key.proofs.Exact.{outcomes-of}
use Rattle.machine_key.proofs.races_have_the_outcomes.Goals as goal

pub returns : goal.returns
returns c = outcomes-of
