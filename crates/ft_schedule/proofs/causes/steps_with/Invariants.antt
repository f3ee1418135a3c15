use Rattle.std.proofs.Common.{◌≡◌, ◌≤◌, ◌+◌, drop, sum_by}
use Rattle.std.specs.List.{list_any}
use Rattle.ft_base.specs.declared.limits.TheConstants.{STEPS}
use Rattle.ft_schedule.specs.Causes.{has_bad_count, steps_of}
use Rattle.ft_schedule.proofs.causes.steps_with.Given as goal

abbrev pub invariant-loop-item : goal.invariant-loop-item
invariant-loop-item l = record {
  low : l.total ≤ STEPS;
  good : list_any has_bad_count l.items ≡ list_any has_bad_count (drop l.item-index l.items);
  sum : l.total + sum_by (steps_of l.cpus) (drop l.item-index l.items) ≡ l.steps + sum_by (steps_of l.cpus) l.items;
}
