use Rattle.live_seats.specs.Seatings.{own_seats}
use Rattle.live_lanes.specs.Conducted.{actors_of}
use Rattle.live_lanes.proofs.conduct.conduct_all.Given as goal

-- the table that was given, and the CPUs whose seats were given
abbrev pub ghosts-conduct_as-N-LaneNames : goal.ghosts-conduct_as-N-LaneNames
ghosts-conduct_as-N-LaneNames g a = record { counts = a.counts.now; name = actors_of (own_seats a.here.items) }

abbrev pub ghosts-conduct_as-N-TableNames : goal.ghosts-conduct_as-N-TableNames
ghosts-conduct_as-N-TableNames g a = record { board = a.live.now; here = own_seats a.here.items }
