use Rattle.std.proofs.Common.{ap, ◌∙◌, length}
use Rattle.ft_desk.specs.Declarations.{job_of}
use Rattle.ft_desk.specs.DeskView.{DeskView}
use Rattle.ft_desk.specs.Sites.{row_at}
use Rattle.ft_desk.proofs.ViewLaws.{row-with}
use Rattle.ft_desk.proofs.desk.Desk.row.Goals as goal

pub returns : goal.returns
returns c = c.row.ensures ∙ row-with c.self.inside.roster.users c.self.inside.roster.funcs (length c.self.inside.pids.pids) (length c.self.inside.slots)
    c.self.inside.pids.pids c.self.inside.pids.nopids c.self.inside.depth c.args.f.0
    ∙ ap (λ (s : DeskView). row_at (job_of s.declared) s.state c.args.f.0) c.self.view_is
