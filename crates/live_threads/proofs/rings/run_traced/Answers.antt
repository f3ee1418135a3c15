use Rattle.std.proofs.Common.{List, sym, subst, arith}
use Rattle.std.proofs.lemmas.Slice.Zip.{AllZip-long}
use Rattle.live_seats.specs.AnySeats.{AreEndedSeats, IsEndedSeat, all_traced}
use Rattle.live_seats.specs.Rooms.{HasPlaces}
use Rattle.live_seats.specs.Traced.{traced}
use Rattle.live_seats.specs.declared.seat.AnySeat.{AnySeat}
use Rattle.live_threads.proofs.RingSeats.{all_traced_count, cpus_ended, rings_same, together, together_count, traced_again}
use Rattle.live_threads.proofs.rings.run_traced.Goals as goal

pub run_scoped-ended-requires-clause-flags : goal.run_scoped-ended-requires-clause-flags
run_scoped-ended-requires-clause-flags g c κs within =
    let cpus = c.args.cpus.items in
    let rings = c.args.rings.items in
    let seats = c.add_traced-seats.result.items in
    let is = together c.args.control cpus rings c.args.rooms.seats.items c.push_reserved.new.self.items seats c.requires.rooms.seats.0
    c.push_reserved.ensures.items c.add_traced-seats.ensures in
    let n = together_count c.args.control cpus rings seats c.requires.traced.count is in
    let f = c.as_slice.ensures.len in
    omega (arith, n, f, c.requires.rooms.flags)

pub run_scoped-ended-requires-clause-seating : goal.run_scoped-ended-requires-clause-seating
run_scoped-ended-requires-clause-seating g c κs within =
    let cpus = c.args.cpus.items in
    let rings = c.args.rings.items in
    let seats = c.add_traced-seats.result.items in
    let is = together c.args.control cpus rings c.args.rooms.seats.items c.push_reserved.new.self.items seats c.requires.rooms.seats.0
    c.push_reserved.ensures.items c.add_traced-seats.ensures in
    let n = together_count c.args.control cpus rings seats c.requires.traced.count is in
    subst (HasPlaces c.args.rooms.seating) (sym n) c.requires.rooms.seating

pub run_scoped-ended-requires-clause-ended : goal.run_scoped-ended-requires-clause-ended
run_scoped-ended-requires-clause-ended g c κs within =
    let cpus = c.args.cpus.items in
    let rings = c.args.rings.items in
    let seats = c.add_traced-seats.result.items in
    let is = together c.args.control cpus rings c.args.rooms.seats.items c.push_reserved.new.self.items seats c.requires.rooms.seats.0
    c.push_reserved.ensures.items c.add_traced-seats.ensures in
    let n = together_count c.args.control cpus rings seats c.requires.traced.count is in
    (c.requires.rooms.ended.0, omega (arith, n, c.requires.rooms.ended.1))

pub take_traced_apart-requires-clause-seats : goal.take_traced_apart-requires-clause-seats
take_traced_apart-requires-clause-seats g c =
    let cpus = c.args.cpus.items in
    let rings = c.args.rings.items in
    let seats = c.add_traced-seats.result.items in
    let is = together c.args.control cpus rings c.args.rooms.seats.items c.push_reserved.new.self.items seats c.requires.rooms.seats.0
    c.push_reserved.ensures.items c.add_traced-seats.ensures in
    let back = c.run_scoped-ended.result.items in
    let over = subst (λ (l : List AnySeat). AreEndedSeats l back) is c.run_scoped-ended.ensures in
    traced_again c.args.control (traced cpus rings) back over

pub take_traced_apart-requires-clause-cpus : goal.take_traced_apart-requires-clause-cpus
take_traced_apart-requires-clause-cpus g c =
    let cpus = c.args.cpus.items in
    let rings = c.args.rings.items in
    let seats = c.add_traced-seats.result.items in
    let is = together c.args.control cpus rings c.args.rooms.seats.items c.push_reserved.new.self.items seats c.requires.rooms.seats.0
    c.push_reserved.ensures.items c.add_traced-seats.ensures in
    let back = c.run_scoped-ended.result.items in
    let over = subst (λ (l : List AnySeat). AreEndedSeats l back) is c.run_scoped-ended.ensures in
    let m = AllZip-long IsEndedSeat (all_traced c.args.control (traced cpus rings)) back over in
    let k = all_traced_count c.args.control cpus rings c.requires.traced.count in
    (c.requires.rooms.cpus'.0, omega (arith, m, k, c.requires.rooms.cpus'.1))

pub take_traced_apart-requires-clause-rings : goal.take_traced_apart-requires-clause-rings
take_traced_apart-requires-clause-rings g c =
    let cpus = c.args.cpus.items in
    let rings = c.args.rings.items in
    let seats = c.add_traced-seats.result.items in
    let is = together c.args.control cpus rings c.args.rooms.seats.items c.push_reserved.new.self.items seats c.requires.rooms.seats.0
    c.push_reserved.ensures.items c.add_traced-seats.ensures in
    let back = c.run_scoped-ended.result.items in
    let over = subst (λ (l : List AnySeat). AreEndedSeats l back) is c.run_scoped-ended.ensures in
    let m = AllZip-long IsEndedSeat (all_traced c.args.control (traced cpus rings)) back over in
    let k = all_traced_count c.args.control cpus rings c.requires.traced.count in
    (c.requires.spare.0, omega (arith, m, k, c.requires.spare.1))

pub returns-clause-cpus : goal.returns-clause-cpus
returns-clause-cpus g c =
    let cpus = c.args.cpus.items in
    let rings = c.args.rings.items in
    let seats = c.add_traced-seats.result.items in
    let is = together c.args.control cpus rings c.args.rooms.seats.items c.push_reserved.new.self.items seats c.requires.rooms.seats.0
    c.push_reserved.ensures.items c.add_traced-seats.ensures in
    let back = c.run_scoped-ended.result.items in
    let over = subst (λ (l : List AnySeat). AreEndedSeats l back) is c.run_scoped-ended.ensures in
    let t = c.take_traced_apart in
    cpus_ended c.args.control t.result.control cpus t.result.cpus.items rings t.result.rings.items back
    c.requires.traced.count t.ensures.traced.count over t.ensures.seats

pub returns-clause-rings : goal.returns-clause-rings
returns-clause-rings g c =
    let cpus = c.args.cpus.items in
    let rings = c.args.rings.items in
    let seats = c.add_traced-seats.result.items in
    let is = together c.args.control cpus rings c.args.rooms.seats.items c.push_reserved.new.self.items seats c.requires.rooms.seats.0
    c.push_reserved.ensures.items c.add_traced-seats.ensures in
    let back = c.run_scoped-ended.result.items in
    let over = subst (λ (l : List AnySeat). AreEndedSeats l back) is c.run_scoped-ended.ensures in
    let t = c.take_traced_apart in
    rings_same c.args.control t.result.control cpus t.result.cpus.items rings t.result.rings.items back
    c.requires.traced.count t.ensures.traced.count over t.ensures.seats
