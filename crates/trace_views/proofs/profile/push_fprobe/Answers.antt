use Rattle.std.proofs.Common.{◌∙◌, ap, sym}
use Rattle.ft_base.specs.Kinds.{is_fprobe}
use Rattle.trace_views.proofs.ProfileLines.{fprobe-said}
use Rattle.trace_views.proofs.profile.push_fprobe.Goals as goal

pub returns : goal.returns
returns g c = λ past is.
    fprobe-said (g.N.Named.job c.args.names.now) past c.args.lines.now.items c.push.new.self.items c.args.user c.args.tally.now is
    (ap is_fprobe (sym c.kind.ensures) ∙ sym c.is_fprobe.ensures ∙ c.if-not-is_fprobe.false) c.in_ok-push.ensures.items
