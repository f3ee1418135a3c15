use Rattle.ft_hist.proofs.Orders.{registered-earlier}
use Rattle.ft_hist.proofs.behaviour.users_come_the_latest_registered_first.Goals as goal

pub returns : goal.returns
returns c = λ job items first second third x y call u v legal e there later. registered-earlier job items first second third x y call u v legal e there later
