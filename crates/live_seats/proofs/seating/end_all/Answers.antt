use Rattle.live_seats.specs.AnySeats.{tables}
use Rattle.live_seats.specs.Seatings.{own_seats, seats_in}
use Rattle.live_seats.proofs.Alike.{ended_over, ended_same, over_then, same_table}
use Rattle.live_seats.proofs.Places.{here_many, own_sit, stepped_in}
use Rattle.live_seats.proofs.seating.end_all.Goals as goal

pub step_all-requires : goal.step_all-requires
step_all-requires g c = own_sit (tables c.args.live.now c.args.rings.now) c.args.seating.places.items c.args.seating.here.items c.requires.here c.requires.seats

pub finish_all-requires-clause-seats : goal.finish_all-requires-clause-seats
finish_all-requires-clause-seats g c =
    let ps = c.args.seating.places.items in
    let hs = c.args.seating.here.items in
    let gs = c.step_all.new.here.items in
    λ _ _. same_table (tables c.args.live.now c.args.rings.now) (seats_in ps hs) (seats_in ps gs) c.requires.seats
    (stepped_in ps hs gs c.requires.here (ended_same (own_seats hs) (own_seats gs) c.step_all.ensures))

pub finish_all-requires-clause-here : goal.finish_all-requires-clause-here
finish_all-requires-clause-here g c =
    let hs = c.args.seating.here.items in
    let gs = c.step_all.new.here.items in
    λ _ _. here_many c.args.seating.places.items hs gs c.requires.here (ended_same (own_seats hs) (own_seats gs) c.step_all.ensures)

pub finish_all-requires-clause-over : goal.finish_all-requires-clause-over
finish_all-requires-clause-over g c = λ _ _. ended_over (own_seats c.args.seating.here.items) (own_seats c.step_all.new.here.items) c.step_all.ensures

pub returns : goal.returns
returns g c =
    let ps = c.args.seating.places.items in
    let hs = c.args.seating.here.items in
    let gs = c.step_all.new.here.items in
    let f = c.finish_all.ensures in
    (f.0, f.1, over_then (seats_in ps hs) (seats_in ps gs) f.0 (stepped_in ps hs gs c.requires.here (ended_same (own_seats hs) (own_seats gs) c.step_all.ensures)) f.2)
