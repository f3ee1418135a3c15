use Rattle.live_seats.specs.AnySeats.{AreSameSeats}
use Rattle.live_seats.specs.Ends.{IsSameControl}
use Rattle.live_seats.specs.Seatings.{own_seats}
use Rattle.live_lanes.proofs.control.LedControl.carry_out.Given as goal

abbrev pub invariant-loop : goal.invariant-loop
invariant-loop g l = record {
  control : IsSameControl l.fn.self.seat l.self.seat;
  here : AreSameSeats (own_seats l.fn.here.items) (own_seats l.here.items);
}
