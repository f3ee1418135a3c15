use Rattle.ring_rules.proofs.Alone.{none-added, none-lost}
use Rattle.ring_rules.proofs.laws.a_ring_differs_by_other_cpus_alone.Goals as goal

pub returns-clause-lost : goal.returns-clause-lost
returns-clause-lost c = none-lost

pub returns-clause-added : goal.returns-clause-added
returns-clause-added c = none-added
