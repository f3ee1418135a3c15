use Rattle.std.proofs.Common.{◌≡◌, ◌≤◌, ◌+◌, ◌∷◌, ◌++◌, length, map, vec_len, vec_capacity}
use Rattle.std.specs.Vec.Iter.{into_iter_items}
use Rattle.live_seats.specs.Traced.{AreTraced, traced}
use Rattle.live_seats.specs.declared.seat.AnySeat.TheVariants.{Control, Traced}
use Rattle.live_threads.proofs.rings.take_traced_apart.Given as goal

abbrev pub invariant-loop-seat : goal.invariant-loop-seat
invariant-loop-seat l = record {
  own : l.yielded ≡ map (λ s. Traced s) (traced l.cpus.items l.rings.items);
  made : AreTraced l.cpus.items l.rings.items;
  many : (vec_len l.cpus ≡ length l.yielded) × (vec_len l.rings ≡ length l.yielded);
  room : (length l.fn.seats.items ≤ vec_capacity l.cpus + 1) × (length l.fn.seats.items ≤ vec_capacity l.rings + 1);
  rest : Control l.control ∷ (l.yielded ++ into_iter_items l.seat-iterator) ≡ l.fn.seats.items;
}
