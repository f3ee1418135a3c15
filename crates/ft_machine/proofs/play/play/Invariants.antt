use Rattle.std.proofs.Common.{◌≡◌, length}
use Rattle.ft_base.specs.Job.{Job}
use Rattle.word_machine.specs.Machine.{World, played}
use Rattle.ft_machine.specs.MachineStates.{IsAt}
use Rattle.ft_machine.proofs.play.play.Given as goal

-- the world and the taker are at a state from which the rest of the actors come to the same as all from the first one, and there is room
abbrev pub invariant-loop-actor : goal.invariant-loop-actor
invariant-loop-actor g l = g.T.Taker.has_room l.taker
    × ((job : Job) (s : World) (first : g.row.T.Denot) → IsAt job s l.fn.world → g.T.Taker.took job s.past first l.fn.taker
    → (t : World) × IsAt job t l.world × g.T.Taker.took job t.past first l.taker × (played job l.player t ≡ played job l.fn.player s))

abbrev pub decreases-loop-actor : goal.decreases-loop-actor
decreases-loop-actor g l = length l.player
