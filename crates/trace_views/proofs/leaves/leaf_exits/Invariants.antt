-- What is kept at a place is what the items from there on tell.
use Rattle.std.proofs.Common.{length, ◌≤◌, drop}
use Rattle.trace_views.specs.Leaves.{IsLeaves}
use Rattle.trace_views.proofs.leaves.leaf_exits.Given as goal

abbrev pub invariant-loop-place : goal.invariant-loop-place
invariant-loop-place l = record {
  within : l.place ≤ length l.history.items;
  kept : IsLeaves l.user.0 l.tasks l.place (drop l.place l.history.items) l.leaves;
}

abbrev pub decreases-loop-place : goal.decreases-loop-place
decreases-loop-place l = l.place
