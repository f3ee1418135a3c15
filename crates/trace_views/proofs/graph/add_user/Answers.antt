use Rattle.std.proofs.Common.{refl, sym, subst, arith}
use Rattle.trace_views.specs.Leaves.{AreInTasks}
use Rattle.trace_views.specs.GraphText.{graph_part}
use Rattle.trace_views.proofs.GraphUsers.{tasks-in, walk-start, texts-next}
use Rattle.trace_views.proofs.ItemTexts.{texts-all}
use Rattle.trace_views.proofs.graph.add_user.Goals as goal

pub leaf_exits-requires : goal.leaf_exits-requires
leaf_exits-requires g c =
    subst (λ n. AreInTasks n c.args.history.now.items) (sym c.tasks-tasks.ensures) (tasks-in (g.N.Named.job c.args.names.now) c.args.history.now.items c.requires)

pub loop-place-init : goal.loop-place-init
loop-place-init g c = record {
  kept = walk-start (g.N.Named.job c.args.names.now) c.args.user.0 c.tasks-tasks.result c.args.history.now.items _ c.requires c.tasks-tasks.ensures
      (c.in_ok-walk.ensures c.args.user.0 c.args.history.now.items c.in_ok-leaves.ensures);
  so_far = refl;
}

pub add_part-requires-clause-so_far : goal.add_part-requires-clause-so_far
add_part-requires-clause-so_far g c = (g.N.Named.job c.args.names.now, c.loop-place.invariant.kept)

pub follow-requires-clause-so_far : goal.follow-requires-clause-so_far
follow-requires-clause-so_far g c = (g.N.Named.job c.args.names.now, c.loop-place.invariant.kept)

pub loop-place-preserved : goal.loop-place-preserved
loop-place-preserved g c = record {
  kept = c.in_ok-follow.ensures (g.N.Named.job c.args.names.now) c.loop-place.invariant.kept;
  so_far = texts-next (graph_part (g.N.Named.job c.args.names.now) c.args.user.0) c.args.history.now.items c.loop-place.place _ _ _ (omega arith)
      (c.in_ok-add_part.ensures (g.N.Named.job c.args.names.now)) c.loop-place.invariant.so_far;
}

pub returns : goal.returns
returns g c = texts-all (graph_part (g.N.Named.job c.args.names.now) c.args.user.0) c.args.history.now.items c.loop-place.place _ _ (omega arith) c.loop-place.invariant.so_far
