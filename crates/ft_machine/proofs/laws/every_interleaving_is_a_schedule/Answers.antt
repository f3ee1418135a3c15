use Rattle.ft_machine.proofs.Replays.{one-by-one}
use Rattle.ft_machine.proofs.laws.every_interleaving_is_a_schedule.Goals as goal

pub returns : goal.returns
returns c = one-by-one
