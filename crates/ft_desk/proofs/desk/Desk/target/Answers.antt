use Rattle.std.proofs.Common.{ap, ◌∙◌}
use Rattle.ft_desk.specs.DeskView.{DeskView}
use Rattle.word_map.specs.Instructions.{insn_at}
use Rattle.ft_desk.proofs.ViewLaws.{insn-with}
use Rattle.ft_desk.proofs.desk.Desk.target.Goals as goal

pub returns : goal.returns
returns c = c.insn.ensures ∙ insn-with c.self.inside.roster.users c.self.inside.pids.pids c.self.inside.pids.nopids c.self.inside.depth c.args.f.0
    ∙ ap (λ (s : DeskView). insn_at s.state c.args.f.0) c.self.view_is
