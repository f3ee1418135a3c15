-- The first triggers have an empty list, with its room.
use Rattle.std.proofs.Common.{◌≡◌, ℕ, ◌<◌, ◌≤◌, get_or, vec_capacity, vec_len}
use Rattle.ring_rules.specs.Gathered.{lists_of, no_lists}
use Rattle.ring_rules.specs.Hits.{quota, trigger}
use Rattle.ring_table.specs.Seats.{spaces_of}
use Rattle.ring_table.proofs.seats.empty_lists.Given as goal

abbrev pub invariant-loop-i : goal.invariant-loop-i
invariant-loop-i l = record {
  lists : lists_of l.lists.items ≡ no_lists l.i;
  spaces : (k : ℕ) → k < l.i → quota (trigger l.fn.plan k).limit l.fn.room ≤ get_or (spaces_of l.lists.items) k 0;
  count : vec_len l.lists ≡ l.i;
  room : l.count ≤ vec_capacity l.lists;
}
