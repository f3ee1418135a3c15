-- At a history's end nothing is kept; each item before the others moves what is kept.
use Rattle.std.proofs.Common.{◌-◌, arith, sym, subst}
use Rattle.trace_views.specs.Leaves.{IsInTasks}
use Rattle.trace_views.proofs.LeafLaws.{each-get, leaves-none, leaves-before}
use Rattle.trace_views.proofs.leaves.leaf_exits.Goals as goal

pub loop-place-init : goal.loop-place-init
loop-place-init c = record {
  within = omega arith;
  kept = leaves-none c.args.user.0 c.args.tasks c.args.history.now.items c.len-place.result _ (omega arith) (c.in_ok-leaves.ensures c.args.user.0 c.len-place.result);
}

pub note-requires : goal.note-requires
note-requires c =
    subst (λ n. IsInTasks n c.item.result.now) (sym c.loop-place.invariant.kept.next.tasks')
    (each-get (IsInTasks c.args.tasks) c.args.history.now.items (c.loop-place.place - 1) c.item.result.now c.item.ensures c.requires)

pub loop-place-preserved : goal.loop-place-preserved
loop-place-preserved c = record {
  within = omega arith;
  kept = leaves-before c.args.user.0 c.args.tasks c.args.history.now.items c.loop-place.place c.item.result.now _ _ (omega arith) c.item.ensures c.in_ok-note.ensures c.loop-place.invariant.kept;
}
