use Rattle.std.proofs.Common.{arith}
use Rattle.trace_views.specs.GraphText.{user_graph}
use Rattle.trace_views.proofs.NumberedTexts.{numbered_texts-all}
use Rattle.trace_views.proofs.graph.graph_lines.Goals as goal

pub returns : goal.returns
returns g c =
    let users = c.users-users.ensures.count in
    numbered_texts-all (user_graph (g.N.Named.job c.args.names.now) c.args.history.now.items) (g.N.Named.job c.args.names.now).users _ c.loop-u.u _ (omega (arith, users)) c.loop-u.invariant
