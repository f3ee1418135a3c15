use Rattle.std.proofs.Common.{ap, sym, ◌∙◌}
use Rattle.std.proofs.lemmas.Result.{on_ok_weaker}
use Rattle.ft_base.specs.declared.user.Kind.{Kind}
use Rattle.trace_views.specs.Words.{is_graph}
use Rattle.trace_views.proofs.LineLaws.{user-said}
use Rattle.trace_views.proofs.graph.add_graph.Goals as goal

pub returns : goal.returns
returns g c =
    let graph = sym (ap (λ (kind : Kind). is_graph kind) c.kind.ensures) ∙ (sym c.is_graph.ensures ∙ c.if-not-is_graph.false) in
    on_ok_weaker c.add_user.result (λ more. user-said (g.N.Named.job c.args.names.now) c.args.history.now.items c.args.user.0 _ _ _ graph (c.in_ok-add_line.ensures (g.N.Named.job c.args.names.now)) more) c.add_user.ensures
