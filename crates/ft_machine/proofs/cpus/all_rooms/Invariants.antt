-- The rooms of the CPUs so far.
use Rattle.std.proofs.Common.{◌≡◌}
use Rattle.ft_base.specs.Job.{Job}
use Rattle.word_map.specs.declared.shape.Shape.{Shape}
use Rattle.ft_machine.specs.Starts.{ArePlansOf}
use Rattle.ft_machine.proofs.Rooms.{rooms_below}
use Rattle.ft_machine.proofs.cpus.all_rooms.Given as goal

abbrev pub invariant-loop-plan : goal.invariant-loop-plan
invariant-loop-plan l = (job : Job) (shape : Shape) → ArePlansOf job l.plans l.specs l.limits shape → l.room ≡ rooms_below job l.plan-index
