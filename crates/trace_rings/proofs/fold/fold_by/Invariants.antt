-- The first items are gone through.
use Rattle.std.proofs.Common.{◌≡◌, take}
use Rattle.ring_rules.specs.Fold.{after_items, at_start}
use Rattle.trace_rings.proofs.fold.fold_by.Given as goal

abbrev pub invariant-loop-p : goal.invariant-loop-p
invariant-loop-p l = l.tracer ≡ record {
  so_far = after_items l.plan 0 (take l.p l.history.items) (at_start l.plan);
  most = l.plan.ring;
  seen = l.p;
}
