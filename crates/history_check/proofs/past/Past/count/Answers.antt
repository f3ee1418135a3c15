use Rattle.std.proofs.Common.{◌∙◌, ◌∷◌, sym, ap}
use Rattle.ft_base.specs.declared.item.Item.{Item}
use Rattle.ft_hist.specs.Past.{begun}
use Rattle.history_check.specs.JudgePast.{lines_after}
use Rattle.history_check.proofs.FollowPast.{lines-more}
use Rattle.history_check.proofs.past.Past.count.Goals as goal

pub returns-in-Begin-clause-lines : goal.returns-in-Begin-clause-lines
returns-in-Begin-clause-lines c = λ n ctls past was.
    c.after_command-self.ensures n ∙ ap (λ ls. lines_after 1 ls) was ∙ lines-more (begun past) ctls ∙ ap (λ (i : Item). lines_after (begun (i ∷ past)) ctls) (sym c.in-Begin.is)
