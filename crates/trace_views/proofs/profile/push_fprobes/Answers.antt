use Rattle.std.proofs.Common.{◌++◌, sym, arith}
use Rattle.std.specs.Prelude.{reverse}
use Rattle.trace_views.specs.ProfileText.{fprobe_line, profile_line_text}
use Rattle.trace_views.specs.Words.{lines_text, numbered_texts}
use Rattle.trace_views.proofs.ProfileLines.{next-user}
use Rattle.trace_views.proofs.StackSteps.{some-at}
use Rattle.trace_views.proofs.profile.push_fprobes.Goals as goal

pub loop-u-preserved : goal.loop-u-preserved
loop-u-preserved g c = λ past are.
    (let here = some-at c.args.users.now c.loop-u.u c.index-users-u.result (omega arith) (sym c.index-users-u.is) in
    next-user (g.N.Named.job c.args.names.now) (fprobe_line (reverse past))
    (lines_text (profile_line_text (g.N.Named.job c.args.names.now)) c.loop-u.lines.items)
    (lines_text (profile_line_text (g.N.Named.job c.args.names.now)) c.args.lines.now.items ++ numbered_texts (fprobe_line (reverse past)) 0 (g.N.Named.job c.args.names.now).users)
    c.loop-u.u (lines_text (profile_line_text (g.N.Named.job c.args.names.now)) c.push_fprobe.new.lines.items) (omega arith)
    (c.in_ok-push_fprobe.ensures past (are.each c.loop-u.u c.index-users-u.result here)) (c.loop-u.invariant past are))
