use Rattle.std.proofs.Common.{◌≡◌, inl, inr, List, ◌++◌, ◌∷◌, [], ap, sym, ◌∙◌, arith, append_assoc, length-append}
use Rattle.std.specs.Vec.Iter.{into_iter_items}
use Rattle.live_seats.specs.Traced.{TracedPlace, traced}
use Rattle.live_seats.specs.declared.seat.AnySeat.{AnySeat}
use Rattle.live_seats.specs.declared.seat.AnySeat.TheVariants.{Control, Cpu, Traced}
use Rattle.live_seats.proofs.Apart.{other_after}
use Rattle.live_threads.proofs.RingSeats.{made_more, own_more}
use Rattle.live_threads.proofs.rings.take_traced_apart.Goals as goal

pub loop-seat-preserved : goal.loop-seat-preserved
loop-seat-preserved c =
    let i = c.loop-seat.invariant in
    let done = c.loop-seat.yielded in
    let left = into_iter_items c.next-in-loop-seat.new.self in
    let cpus = c.loop-seat.cpus.items in
    let rings = c.loop-seat.rings.items in
    let more = c.push_reserved.new.self.items in
    let more' = c.push_reserved-in-Traced.new.self.items in
    let x = c.in-Traced.seat in
    let two = c.into_seats-cpu.result in
    let e = c.into_seats-cpu.ensures in
    let n = length-append done (c.in-Some.seat ∷ []) in
    let p = c.push_reserved.ensures in
    let q = c.push_reserved-in-Traced.ensures in
    record {
      own = own_more cpus more rings more' two.0 two.1 x e.seats.0 e.seats.1 p.items q.items i.made done c.in-Some.seat i.own c.in-Traced.is;
      made = made_more cpus more rings more' two.0 two.1 x e.seats.0 e.seats.1 p.items q.items i.made e.traced;
      many = (omega (arith, n, i.many.0, p.len), omega (arith, n, i.many.1, q.len));
      room = (omega (arith, i.room.0, p.capacity), omega (arith, i.room.1, q.capacity));
      rest = ap (λ (l : List AnySeat). Control c.in-Some-Control.control ∷ l)
          (append_assoc done (c.in-Some.seat ∷ []) left ∙ ap (λ (l : List AnySeat). done ++ l) (sym c.in-Some.ensures.steps.0)) ∙ i.rest;
    }

pub unreachable-requires-in-Control : goal.unreachable-requires-in-Control
unreachable-requires-in-Control c =
    let h = c.requires.seats in
    let none = λ (y : AnySeat) (other : (s : TracedPlace) → y ≡ Traced s → ⊥) (is : c.in-Some.seat ≡ y).
    other_after (λ s. Traced s) y other c.in-Some-Control.control h.0 c.loop-seat.yielded (into_iter_items c.loop-seat.seat-iterator)
    (into_iter_items c.next-in-loop-seat.new.self) c.args.seats.items c.in-Some.seat (traced h.1 h.2)
    c.loop-seat.invariant.rest c.in-Some.ensures.steps.0 is h.3 in
    elim c.in-Control.is [
      | inl e ↦ none (Control e.0) (λ s p. cc) e.1
      | inr e ↦ none (Cpu e.0) (λ s p. cc) e.1
    ]
