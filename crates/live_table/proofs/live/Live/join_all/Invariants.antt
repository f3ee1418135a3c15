-- Control's seat knows what it knew and what the seats knew that joined it; the lists are theirs; and there is room for the rest.
use Rattle.std.proofs.Common.{◌≡◌, ◌+◌, ◌≤◌, ◌∷◌, ◌++◌, length, vec_capacity}
use Rattle.std.specs.Vec.Iter.{into_iter_items}
use Rattle.ft_base.specs.declared.turn.Actor.TheVariants.{Control as ByControl}
use Rattle.ft_hist.specs.Placing.{items_of}
use Rattle.live_table.specs.Seats.{lists_at, parts_of}
use Rattle.dealt_seats.specs.Views.{part, view}
use Rattle.live_table.proofs.live.Live.join_all.Given as goal

abbrev pub invariant-loop-joining : goal.invariant-loop-joining
invariant-loop-joining l = record {
  table : l.seat.table_id ≡ l.self.table_id;
  parts : l.seat.me.0 ≡ view l.fn.control.job l.fn.control.led l.fn.control.split (part ByControl l.fn.control.values ∷ parts_of l.yielded);
  listed : items_of l.lists.items ≡ lists_at l.fn.control l.yielded;
  count : length l.lists.items ≡ 1 + length l.yielded;
  room : 1 + length l.fn.cpus.items ≤ vec_capacity l.lists;
  rest : l.yielded ++ into_iter_items l.joining-iterator ≡ l.fn.cpus.items;
}
