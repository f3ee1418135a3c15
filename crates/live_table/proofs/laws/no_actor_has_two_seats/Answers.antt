use Rattle.live_table.proofs.Seating.{one-seat-each}
use Rattle.live_table.proofs.laws.no_actor_has_two_seats.Goals as goal

pub returns : goal.returns
returns c = one-seat-each
