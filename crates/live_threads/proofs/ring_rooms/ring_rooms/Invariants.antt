-- The rings of the CPUs so far have their rooms, and there is room for the others.
use Rattle.std.proofs.Common.{◌≡◌, ◌≤◌, length, map, vec_capacity}
use Rattle.std.specs.List.{range_with_len}
use Rattle.word_machine.specs.Laws.{room_on}
use Rattle.live_threads.proofs.ring_rooms.ring_rooms.Given as goal

abbrev pub invariant-loop-plan : goal.invariant-loop-plan
invariant-loop-plan l = record {
  rooms : l.rooms.items ≡ map (room_on l.job) (range_with_len 0 l.plan-index);
  count : length l.rooms.items ≡ l.plan-index;
  room : length l.plans ≤ vec_capacity l.rooms;
}
