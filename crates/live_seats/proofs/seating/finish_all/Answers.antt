use Rattle.std.proofs.Common.{◌≡◌, List, [], ◌∷◌, ◌++◌, length, None, subst, append-nil, append_assoc, ap, ◌∙◌, sym, arith}
use Rattle.std.specs.Vec.Iter.{into_iter_items}
use Rattle.std.proofs.lemmas.List.{nil_from_length}
use Rattle.std.proofs.lemmas.List.Elements.{All-head, All-tail}
use Rattle.live_seats.specs.AnySeats.{AreAtEnd, AreEndedSeats, next_of, tables}
use Rattle.live_seats.specs.Seatings.{own_seats, seats_in}
use Rattle.live_seats.specs.declared.here.HereSeat.{HereSeat}
use Rattle.live_seats.specs.declared.seat.AnySeat.{AnySeat}
use Rattle.live_seats.specs.declared.seating.Place.{Place}
use Rattle.live_seats.specs.declared.seating.Place.TheVariants.{There, Here}
use Rattle.live_seats.proofs.Alike.{same_one}
use Rattle.live_seats.proofs.Places.{count_first, first_here, first_is, first_sits, one_ended, others_sit}
use Rattle.live_seats.proofs.seating.finish_all.Goals as goal

pub join_seat-requires-after_bounds : goal.join_seat-requires-after_bounds
join_seat-requires-after_bounds g c κs within =
    let its = into_iter_items c.loop-place.place-iterator in
    let left = into_iter_items c.next.new.self in
    let hs = into_iter_items c.loop-place.rest in
    let t = c.in-There.thread in
    first_sits (tables c.args.live.now c.args.rings.now) (seats_in its hs) (seats_in left hs) t.promise.0.value c.loop-place.invariant.left (first_is its left hs c.in-Some.place (There t) c.in-Some.ensures.steps.0 c.in-There.is)

pub loop-place-preserved-in-There : goal.loop-place-preserved-in-There
loop-place-preserved-in-There g c =
    let i = c.loop-place.invariant in
    let o = i.over in
    let its = into_iter_items c.loop-place.place-iterator in
    let left = into_iter_items c.next.new.self in
    let hs = into_iter_items c.loop-place.rest in
    let t = c.in-There.thread in
    let u = c.join_seat.result in
    let first = c.in-Some.ensures.steps.0 in
    let is = first_is its left hs c.in-Some.place (There t) first c.in-There.is in
    let all = seats_in c.args.seating.places.items c.args.seating.here.items in
    record {
      left = others_sit (tables c.args.live.now c.args.rings.now) (seats_in its hs) (seats_in left hs) t.promise.0.value i.left is;
      here' = sym (count_first its left c.in-Some.place (There t) first c.in-There.is) ∙ i.here';
      ended' = i.ended';
      over = (
        o.0 ++ u ∷ [],
        c.push_reserved.ensures.items ∙ ap (λ (l : List AnySeat). l ++ u ∷ []) o.1 ∙ append_assoc c.args.ended.items o.0 (u ∷ []),
        one_ended all (seats_in its hs) (seats_in left hs) o.0 t.promise.0.value u is o.2 c.join_seat.ensures,
      );
      room = omega (arith, i.room, ap (λ (l : List Place). length l) first, c.push_reserved.ensures.len, c.push_reserved.ensures.capacity);
    }

pub loop-place-preserved : goal.loop-place-preserved
loop-place-preserved g c =
    let i = c.loop-place.invariant in
    let o = i.over in
    let its = into_iter_items c.loop-place.place-iterator in
    let left = into_iter_items c.next.new.self in
    let hs = into_iter_items c.loop-place.rest in
    let gs = into_iter_items c.next-in-Here.new.self in
    let h = c.in-Some-next.own in
    let first = c.in-Some.ensures.steps.0 in
    let more = c.in-Some-next.ensures.cases.0 in
    let is = first_here its left hs gs c.in-Some.place h first c.in-Here.is more in
    let n = count_first its left c.in-Some.place Here first c.in-Here.is in
    let m = ap length more in
    let over : AreAtEnd (own_seats (h ∷ gs)) = subst (λ (l : List HereSeat). AreAtEnd (own_seats l)) more i.ended' in
    let all = seats_in c.args.seating.places.items c.args.seating.here.items in
    record {
      left = others_sit (tables c.args.live.now c.args.rings.now) (seats_in its hs) (seats_in left gs) h.seat i.left is;
      here' = omega (arith, i.here', n, m);
      ended' = All-tail (λ (s : AnySeat). next_of s ≡ None) h.seat (own_seats gs) over;
      over = (
        o.0 ++ h.seat ∷ [],
        c.push_reserved-in-Here.ensures.items ∙ ap (λ (l : List AnySeat). l ++ h.seat ∷ []) o.1 ∙ append_assoc c.args.ended.items o.0 (h.seat ∷ []),
        one_ended all (seats_in its hs) (seats_in left gs) o.0 h.seat h.seat is o.2 (same_one h.seat, All-head (λ (s : AnySeat). next_of s ≡ None) h.seat (own_seats gs) over),
      );
      room = omega (arith, i.room, ap (λ (l : List Place). length l) first, c.push_reserved-in-Here.ensures.len, c.push_reserved-in-Here.ensures.capacity);
    }

pub returns : goal.returns
returns g c =
    let o = c.loop-place.invariant.over in
    let its = into_iter_items c.loop-place.place-iterator in
    let none : its ≡ [] = nil_from_length its (sym c.loop-place.place-iterator.rest.ok.0 ∙ c.in-None.ensures.steps.0) in
    let hs = into_iter_items c.loop-place.rest in
    let over = o.2 [] (subst (λ (l : List Place). AreEndedSeats (seats_in l hs) []) (sym none) tt) in
    (o.0, o.1, subst (AreEndedSeats (seats_in c.args.seating.places.items c.args.seating.here.items)) (append-nil o.0) over)
