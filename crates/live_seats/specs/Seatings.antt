-- The seats of a seating: those that threads have promised to give back, and those that are here.
use Rattle.std.specs.Prelude.{ℕ, suc, List, [], ◌∷◌, map}
use Rattle.live_seats.specs.declared.here.HereSeat.{HereSeat}
use Rattle.live_seats.specs.declared.seat.AnySeat.{AnySeat}
use Rattle.live_seats.specs.declared.seating.Place.{Place}
use Rattle.live_seats.specs.declared.seating.Place.TheVariants.{There, Here}

-- the seats that are here, at whatever point of their runs
abbrev pub own_seats : List HereSeat → List AnySeat
own_seats here = map (λ h. h.seat) here

-- how many of these places are here
abbrev pub here_in : List Place → ℕ
here_in [] = 0
here_in (There thread ∷ places) = here_in places
here_in (Here ∷ places) = suc (here_in places)

-- the seats of these places, if those that are here are these
abbrev pub seats_in : List Place → List HereSeat → List AnySeat
seats_in [] here = []
seats_in (There thread ∷ places) here = thread.promise.0.value ∷ seats_in places here
seats_in (Here ∷ places) [] = []
seats_in (Here ∷ places) (h ∷ here) = h.seat ∷ seats_in places here
