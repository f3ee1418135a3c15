use Rattle.std.proofs.Common.{List, ◌++◌, ◌∷◌, [], length, ap, ◌∙◌, arith}
use Rattle.std.specs.Vec.Iter.{into_iter_items}
use Rattle.live_table.specs.Seats.{CpuPlace}
use Rattle.live_seats.specs.Traced.{TracedPlace}
use Rattle.live_seats.specs.declared.seat.AnySeat.TheVariants.{Traced}
use Rattle.live_threads.proofs.RingSeats.{next_traced, one_added, rest_traced}
use Rattle.live_threads.proofs.rings.add_traced.Goals as goal

pub new-requires : goal.new-requires
new-requires c =
    next_traced (into_iter_items c.loop-cpu.cpu-iterator) (into_iter_items c.next.new.self) (into_iter_items c.loop-cpu.rings)
    (into_iter_items c.next-in-loop-cpu.new.self)
    c.in-Some.cpu c.in-Some-next.ring c.in-Some.ensures.steps.0 c.in-Some-next.ensures.cases.0 c.loop-cpu.invariant.left

pub loop-cpu-preserved : goal.loop-cpu-preserved
loop-cpu-preserved c =
    let i = c.loop-cpu.invariant in
    let its = into_iter_items c.loop-cpu.cpu-iterator in
    let left = into_iter_items c.next.new.self in
    let rits = into_iter_items c.loop-cpu.rings in
    let rleft = into_iter_items c.next-in-loop-cpu.new.self in
    let s = c.in-Some.cpu in
    let r = c.in-Some-next.ring in
    let first = c.in-Some.ensures.steps.0 in
    let second = c.in-Some-next.ensures.cases.0 in
    let old = c.loop-cpu.seats.items in
    let push = c.push_reserved.ensures.items ∙ ap (λ (x : TracedPlace). old ++ Traced x ∷ []) c.new.ensures in
    record {
      have = one_added its left rits rleft s r first second i.left old c.push_reserved.new.self.items _ i.have push;
      left = rest_traced its left rits rleft s r first second i.left;
      room = omega (arith, i.room, ap (λ (l : List CpuPlace). length l) first, c.push_reserved.ensures.len, c.push_reserved.ensures.capacity);
    }
