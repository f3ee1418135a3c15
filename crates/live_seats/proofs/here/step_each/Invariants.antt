use Rattle.std.proofs.Common.{◌≡◌, vec_len}
use Rattle.live_table.specs.declared.live.Going.TheVariants.{End}
use Rattle.live_seats.specs.AnySeats.{AreSameSeats}
use Rattle.live_seats.specs.Seatings.{own_seats}
use Rattle.live_seats.proofs.Alike.{AreFirstOver}
use Rattle.live_seats.proofs.here.step_each.Given as goal

abbrev pub invariant-loop-i : goal.invariant-loop-i
invariant-loop-i g l = record {
  same : AreSameSeats (own_seats l.fn.here.items) (own_seats l.here.items);
  count : vec_len l.here ≡ l.i-end;
  over : l.going ≡ End → AreFirstOver l.i l.here.items;
}
