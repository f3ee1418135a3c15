-- The first seat knows what the seats knew that joined it, and what they have made is collected.
use Rattle.std.proofs.Common.{◌≡◌, ℕ, ◌+◌, ◌∷◌, ◌++◌, [], length}
use Rattle.std.specs.Vec.Iter.{into_iter_items}
use Rattle.ring_table.specs.declared.view.Known.{Known}
use Rattle.ring_table.specs.Seats.{AreCounted, parts_of, shares_of}
use Rattle.ring_table.specs.Views.{cpu_view, view}
use Rattle.dealt_seats.specs.Views.{cpu, part}
use Rattle.ring_table.proofs.gather.join_all.Given as goal

abbrev pub invariant-loop-joining : goal.invariant-loop-joining
invariant-loop-joining l = record {
  table : l.host.table_id ≡ l.shared.table_id;
  parts : (c : ℕ) × (k : Known) × (l.fn.host.me ≡ (cpu_view l.shared.key c k, []))
      × (l.host.me ≡ (view l.shared.key 0 (part (cpu c) k ∷ parts_of l.yielded), []));
  kept : l.collected ≡ shares_of l.yielded (length l.fn.seats.items + 1);
  counted : AreCounted l.shared.key l.yielded;
  rest : l.yielded ++ into_iter_items l.joining-iterator ≡ l.fn.seats.items;
}
