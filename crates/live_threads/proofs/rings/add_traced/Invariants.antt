use Rattle.std.proofs.Common.{◌≡◌, ◌≤◌, ◌+◌, ◌++◌, length, map, vec_len, vec_capacity}
use Rattle.std.specs.Vec.Iter.{into_iter_items}
use Rattle.live_seats.specs.Traced.{AreTraced, traced}
use Rattle.live_seats.specs.declared.seat.AnySeat.TheVariants.{Traced}
use Rattle.live_threads.proofs.rings.add_traced.Given as goal

abbrev pub invariant-loop-cpu : goal.invariant-loop-cpu
invariant-loop-cpu l = record {
  have : l.seats.items ++ map (λ s. Traced s) (traced (into_iter_items l.cpu-iterator) (into_iter_items l.rings))
      ≡ l.fn.seats.items ++ map (λ s. Traced s) (traced l.fn.cpus.items l.fn.rings.items);
  left : AreTraced (into_iter_items l.cpu-iterator) (into_iter_items l.rings);
  room : vec_len l.seats + length (into_iter_items l.cpu-iterator) ≤ vec_capacity l.seats;
}
