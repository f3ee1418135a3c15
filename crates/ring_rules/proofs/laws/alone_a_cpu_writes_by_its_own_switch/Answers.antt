use Rattle.ring_rules.proofs.Alone.{alone}
use Rattle.ring_rules.proofs.laws.alone_a_cpu_writes_by_its_own_switch.Goals as goal

pub returns : goal.returns
returns c = alone
