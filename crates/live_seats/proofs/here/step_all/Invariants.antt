use Rattle.live_seats.specs.AnySeats.{AreSameSeats}
use Rattle.live_seats.specs.Seatings.{own_seats}
use Rattle.live_seats.proofs.here.step_all.Given as goal

abbrev pub invariant-loop : goal.invariant-loop
invariant-loop g l = AreSameSeats (own_seats l.fn.here.items) (own_seats l.here.items)
