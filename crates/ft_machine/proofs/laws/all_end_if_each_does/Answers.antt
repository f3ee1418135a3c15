use Rattle.ft_machine.proofs.Replays.{ends-alike}
use Rattle.ft_machine.proofs.laws.all_end_if_each_does.Goals as goal

pub returns : goal.returns
returns c = ends-alike
