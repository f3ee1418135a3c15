use Rattle.std.proofs.Math.Nat.{mod-add-mod}
use Rattle.ft_schedule.specs.Bulk.{next_state}
use Rattle.ft_schedule.proofs.bulk.Draws.draw.Goals as goal

pub returns-clause-state : goal.returns-clause-state
unfolding next_state
returns-clause-state c = mod-add-mod _ _ _
