use Rattle.ft_hist.proofs.Orders.{begins-next, returns-it}
use Rattle.ft_hist.proofs.behaviour.commands_go_one_by_one.Goals as goal

pub returns-clause-begins : goal.returns-clause-begins
returns-clause-begins c = λ job items first rest k legal e. begins-next job items first rest k legal e

pub returns-clause-returns : goal.returns-clause-returns
returns-clause-returns c = λ job items first rest k answer legal e. returns-it job items first rest k answer legal e
