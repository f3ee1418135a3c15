-- All room that a run takes.
use Rattle.std.specs.Prelude.{◌≡◌, ◌≤◌, ℕ, ◌+◌, [], vec_len, vec_capacity}
use Rattle.live_seats.specs.declared.rooms.Rooms.{Rooms}
use Rattle.live_seats.specs.declared.seating.Seating.{Seating}

-- no seat has a place yet, and there is room for so many
pub record HasPlaces (s : Seating) (seats : ℕ) : Type 0 where
  pub places : (s.places.items ≡ []) × (seats ≤ vec_capacity s.places)
  pub here : (s.here.items ≡ []) × (seats ≤ vec_capacity s.here)

-- it is enough for control's seat and so many of CPUs
pub record HasRooms (r : Rooms) (cpus : ℕ) : Type 0 where
  pub flags : vec_len r.flags ≡ cpus + 1
  pub seats : (r.seats.items ≡ []) × (cpus + 1 ≤ vec_capacity r.seats)
  pub seating : HasPlaces r.seating (cpus + 1)
  pub ended : (r.ended.items ≡ []) × (cpus + 1 ≤ vec_capacity r.ended)
  pub cpus' : (r.cpus.items ≡ []) × (cpus ≤ vec_capacity r.cpus)
