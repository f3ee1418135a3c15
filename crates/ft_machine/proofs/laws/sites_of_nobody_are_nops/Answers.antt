use Rattle.ft_machine.proofs.Nobody.{nobody-nop}
use Rattle.ft_machine.proofs.laws.sites_of_nobody_are_nops.Goals as goal

pub returns : goal.returns
returns c = nobody-nop
