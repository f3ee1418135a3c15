-- The first triggers are copied, and there is room for the others.
use Rattle.std.proofs.Common.{◌≡◌, ◌≤◌, length, map, take, vec_capacity, vec_len}
use Rattle.filter_commands.specs.Meanings.{plain_trigger}
use Rattle.trace_rings.proofs.plan.copy_triggers.Given as goal

abbrev pub invariant-loop-trigger : goal.invariant-loop-trigger
invariant-loop-trigger l = record {
  copied : map plain_trigger l.copies.items ≡ map plain_trigger (take l.trigger-index l.triggers);
  count : vec_len l.copies ≡ l.trigger-index;
  room : length l.triggers ≤ vec_capacity l.copies;
}
