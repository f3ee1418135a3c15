use Rattle.std.proofs.Common.{◌≡◌, vec_len, vec_capacity}
use Rattle.live_seats.proofs.rooms.make_flags.Given as goal

abbrev pub invariant-loop-made : goal.invariant-loop-made
invariant-loop-made l = (vec_len l.flags ≡ l.made) × (vec_capacity l.flags ≡ l.count)
