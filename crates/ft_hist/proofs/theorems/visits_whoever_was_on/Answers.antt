use Rattle.ft_hist.proofs.ItemOrders.{who-was-on}
use Rattle.ft_hist.proofs.theorems.visits_whoever_was_on.Goals as goal

pub returns : goal.returns
returns c = λ job items before mid rest call ctx f caller g ran u legal e within on. who-was-on job items before mid rest call ctx f caller g ran legal e u within on
