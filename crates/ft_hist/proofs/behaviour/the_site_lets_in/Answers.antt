use Rattle.ft_hist.proofs.Orders.{none-through, own-through}
use Rattle.ft_hist.proofs.behaviour.the_site_lets_in.Goals as goal

pub returns-clause-nop : goal.returns-clause-nop
returns-clause-nop c = λ job items first second rest x call u g legal e. none-through job items first second rest x call u g legal e

pub returns-clause-own : goal.returns-clause-own
returns-clause-own c = λ job items first second rest x call u g user legal e there. own-through job items first second rest x call u g user legal e there
