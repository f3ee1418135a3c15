use Rattle.std.proofs.Common.{refl}
use Rattle.ft_desk.proofs.plan.Plan.clear.Goals as goal

pub returns-clause-plan : goal.returns-clause-plan
returns-clause-plan c = rw c.clear.ensures.items refl
