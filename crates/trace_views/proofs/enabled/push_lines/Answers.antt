use Rattle.std.proofs.Common.{arith}
use Rattle.ft_base.specs.Job.{funcs}
use Rattle.trace_views.proofs.EnabledLines.{lines-more, lines-all}
use Rattle.trace_views.proofs.enabled.push_lines.Goals as goal

pub loop-f-preserved : goal.loop-f-preserved
loop-f-preserved g c =
    let grown = rw (c.row.ensures, c.requires.rows c.loop-f.f, c.ran.ensures) at c.in_ok-push_part.ensures (g.N.Named.job c.args.names.now) in
    lines-more (g.N.Named.job c.args.names.now) c.args.desk.now.state (funcs (g.N.Named.job c.args.names.now)) c.loop-f.f _ _ _ (omega arith) grown c.loop-f.invariant

pub returns : goal.returns
returns g c = lines-all (g.N.Named.job c.args.names.now) c.args.desk.now.state (funcs (g.N.Named.job c.args.names.now)) c.loop-f.f _ _ (omega arith) c.loop-f.invariant
