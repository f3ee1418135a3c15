-- The first CPUs have their seats.
use Rattle.std.proofs.Common.{◌≡◌, ◌≤◌, [], vec_capacity}
use Rattle.ring_table.specs.Seats.{AreFresh}
use Rattle.ring_table.specs.Views.{first_view}
use Rattle.ring_table.proofs.gather.deal_all.Given as goal

abbrev pub invariant-loop-c : goal.invariant-loop-c
invariant-loop-c l = record {
  table : l.host.table_id ≡ l.fn.shared.table_id;
  host : l.host.me ≡ (first_view l.fn.shared.key l.c, []);
  seats : AreFresh l.fn.shared.table_id l.fn.plan l.fn.rooms l.seats.items l.c;
  room : l.count ≤ vec_capacity l.seats;
}
