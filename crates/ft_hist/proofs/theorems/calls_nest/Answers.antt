use Rattle.ft_hist.proofs.ItemLaws.{inner-returns}
use Rattle.ft_hist.proofs.theorems.calls_nest.Goals as goal

pub returns : goal.returns
returns k = λ job items a b c d outer inner ctx ctx' f f' caller caller' to legal same e. inner-returns job items a b c d outer inner ctx ctx' f f' caller caller' to legal same e
