use Rattle.std.proofs.Common.{◌≡◌, length, arith, rules, subst}
use Rattle.ft_hist.specs.Telling.{past_at}
use Rattle.trace_views.specs.RingLines.{AreBackLines}
use Rattle.trace_views.proofs.BackLines.{at-first}
use Rattle.trace_views.proofs.FollowLaws.{at-next}
use Rattle.trace_views.proofs.ItemTexts.{legal-at}
use Rattle.trace_views.proofs.function.back_lines.Goals as goal

pub loop-place-init : goal.loop-place-init
loop-place-init g c =
    let first = at-first (g.N.Named.job c.args.names.now) c.args.history.now.items in
    record { calls = c.in_ok-open.ensures; lines' = search (rules, first) }

pub push_back-requires-clause-calls : goal.push_back-requires-clause-calls
push_back-requires-clause-calls g c = (g.N.Named.job c.args.names.now, c.requires, c.loop-place.invariant.calls)

pub follow-requires : goal.follow-requires
follow-requires g c = (
  g.N.Named.job c.args.names.now,
  past_at c.loop-place.place c.args.history.now.items,
  c.loop-place.invariant.calls,
  legal-at c.args.history.now.items c.loop-place.place c.item.result.now c.item.ensures (g.N.Named.job c.args.names.now) c.requires,
)

pub loop-place-preserved : goal.loop-place-preserved
loop-place-preserved g c = record {
  calls = at-next (g.N.Named.job c.args.names.now) c.args.history.now.items c.loop-place.place c.item.result.now c.item.ensures c.requires _
      (c.follow.ensures (g.N.Named.job c.args.names.now) (past_at c.loop-place.place c.args.history.now.items) c.loop-place.invariant.calls);
  lines' = c.in_ok-push_back.ensures (g.N.Named.job c.args.names.now) c.requires c.loop-place.invariant.calls c.loop-place.invariant.lines';
}

pub returns : goal.returns
returns g c =
    let job = g.N.Named.job c.args.names.now in
    let end : c.loop-place.place ≡ length c.args.history.now.items = omega arith in
    subst (λ n. AreBackLines job c.args.history.now.items n c.loop-place.lines.items) end c.loop-place.invariant.lines'
