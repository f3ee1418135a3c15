use Rattle.std.proofs.Common.{List, [], ◌∷◌, ◌++◌, length, rules, refl, sym, ap, subst, ◌∙◌, append_assoc, append-nil, arith, length-append}
use Rattle.std.specs.Vec.Iter.{into_iter_items}
use Rattle.live_seats.specs.AnySeats.{IsSameSeat}
use Rattle.live_seats.specs.declared.seat.AnySeat.{AnySeat}
use Rattle.live_seats.specs.declared.seating.Place.TheVariants.{There, Here}
use Rattle.live_seats.proofs.Places.{counted, placed}
use Rattle.live_seats.proofs.seating.launch_all.Goals as goal

pub loop-seat-preserved-in-Ok : goal.loop-seat-preserved-in-Ok
loop-seat-preserved-in-Ok g c =
    let i = c.loop-seat.invariant in
    let done = c.loop-seat.yielded in
    let left = into_iter_items c.next.new.self in
    let ps = c.loop-seat.places.items in
    let qs = c.push_reserved.new.self.items in
    let hs = c.loop-seat.here.items in
    let more = c.push_reserved.ensures.items in
    let t = c.in-Ok.thread in
    let n = length-append done (c.in-Some.seat ∷ []) in
    let m = counted done ps qs hs hs c.in-Some.seat (There t) i.same i.here' more in
    record {
      same = placed done ps qs hs hs c.in-Some.seat (There t) i.same i.here' more [] t.promise.0.value (sym (append-nil hs)) refl c.in-Ok.ensures;
      here' = omega (arith, m);
      made = omega (arith, i.made, n, c.push_reserved.ensures.len);
      few = omega (arith, i.few, n);
      room = search rules;
      room' = i.room';
      rest = append_assoc done (c.in-Some.seat ∷ []) left ∙ ap (λ (l : List AnySeat). done ++ l) (sym c.in-Some.ensures.steps.0) ∙ i.rest;
    }

pub loop-seat-preserved : goal.loop-seat-preserved
loop-seat-preserved g c =
    let i = c.loop-seat.invariant in
    let done = c.loop-seat.yielded in
    let left = into_iter_items c.next.new.self in
    let ps = c.loop-seat.places.items in
    let qs = c.push_reserved-in-Err.new.self.items in
    let hs = c.loop-seat.here.items in
    let gs = c.push_reserved-in-Err-2.new.self.items in
    let h = c.new.result in
    let more = c.push_reserved-in-Err.ensures.items in
    let more' = c.push_reserved-in-Err-2.ensures.items in
    let n = length-append done (c.in-Some.seat ∷ []) in
    let m = counted done ps qs hs gs c.in-Some.seat Here i.same i.here' more in
    let k = ap length more' ∙ length-append hs (h ∷ []) in
    record {
      same = placed done ps qs hs gs c.in-Some.seat Here i.same i.here' more (h ∷ []) h.seat more' refl (subst (IsSameSeat c.in-Some.seat) (sym c.new.ensures) c.in-Err.ensures);
      here' = omega (arith, m, k);
      made = omega (arith, i.made, n, c.push_reserved-in-Err.ensures.len);
      few = omega (arith, i.few, n, c.push_reserved-in-Err-2.ensures.len);
      room = search rules;
      room' = search rules;
      rest = append_assoc done (c.in-Some.seat ∷ []) left ∙ ap (λ (l : List AnySeat). done ++ l) (sym c.in-Some.ensures.steps.0) ∙ i.rest;
    }
