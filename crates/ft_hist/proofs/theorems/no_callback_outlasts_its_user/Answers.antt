use Rattle.ft_hist.proofs.ExitItems.{ended-before}
use Rattle.ft_hist.proofs.theorems.no_callback_outlasts_its_user.Goals as goal

pub returns : goal.returns
returns c = λ job items a b rest x k call u command legal e begins is off. ended-before job items a b rest x k call u legal e begins command is off
