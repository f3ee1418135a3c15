use Rattle.std.proofs.Common.{◌≡◌, ◌++◌, false, map, drop, take}
use Rattle.std.specs.List.{list_any}
use Rattle.ft_schedule.specs.Items.{turn_from}
use Rattle.ft_schedule.specs.Causes.{has_bad_count}
use Rattle.ft_schedule.proofs.schedule.push_turns.Given as goal

abbrev pub invariant-loop-item : goal.invariant-loop-item
invariant-loop-item l = record {
  good : list_any has_bad_count (drop l.item-index l.items) ≡ false;
  whole : l.turns.items ++ map turn_from (drop l.item-index l.items) ≡ l.fn.turns.items ++ map turn_from l.items;
  front : take l.before l.turns.items ≡ l.fn.turns.items;
}
