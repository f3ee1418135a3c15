use Rattle.live_seats.specs.AnySeats.{IsSameSeat}
use Rattle.live_seats.proofs.seat.run_seat.Given as goal

abbrev pub invariant-loop : goal.invariant-loop
invariant-loop g l = IsSameSeat l.fn.seat l.seat
