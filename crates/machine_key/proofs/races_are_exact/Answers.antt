use Rattle.machine_key.proofs.Exact.{exact}
use Rattle.machine_key.proofs.races_are_exact.Goals as goal

pub returns : goal.returns
returns c = exact
