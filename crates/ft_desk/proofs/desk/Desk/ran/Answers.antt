use Rattle.std.proofs.Common.{ap, ◌∙◌}
use Rattle.ft_base.specs.Desk.{target}
use Rattle.ft_desk.specs.DeskView.{DeskView}
use Rattle.ft_desk.proofs.ViewLaws.{target-with}
use Rattle.ft_desk.proofs.desk.Desk.ran.Goals as goal

pub returns : goal.returns
returns c = c.ran.ensures ∙ target-with c.self.inside.roster.users c.self.inside.pids.pids c.self.inside.pids.nopids c.self.inside.depth c.args.f.0
    ∙ ap (λ (s : DeskView). target s.state c.args.f.0) c.self.view_is
