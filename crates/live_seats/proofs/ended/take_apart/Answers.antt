use Rattle.std.proofs.Common.{◌≡◌, inl, inr}
use Rattle.std.specs.Vec.Iter.{into_iter_items}
use Rattle.live_table.specs.Seats.{CpuPlace}
use Rattle.live_seats.specs.declared.seat.AnySeat.{AnySeat}
use Rattle.live_seats.specs.declared.seat.AnySeat.TheVariants.{Control, Cpu, Traced}
use Rattle.live_seats.proofs.Apart.{other_after}
use Rattle.live_seats.proofs.ended.take_apart.Goals as goal

pub unreachable-requires-in-Control : goal.unreachable-requires-in-Control
unreachable-requires-in-Control c =
    let h = c.requires.seats in
    let none = λ (y : AnySeat) (other : (s : CpuPlace) → y ≡ Cpu s → ⊥) (is : c.in-Some.seat ≡ y).
    other_after (λ s. Cpu s) y other c.in-Some-Control.control h.0 c.loop-seat.yielded (into_iter_items c.loop-seat.seat-iterator)
    (into_iter_items c.next-in-loop-seat.new.self) c.args.seats.items c.in-Some.seat h.1 c.loop-seat.invariant.rest c.in-Some.ensures.steps.0 is h.2 in
    elim c.in-Control.is [
      | inl e ↦ none (Control e.0) (λ s p. cc) e.1
      | inr e ↦ none (Traced e.0) (λ s p. cc) e.1
    ]
