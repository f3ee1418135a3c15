use Rattle.ft_hist.proofs.Orders.{replaced, replaced-once, unreplaced}
use Rattle.ft_hist.proofs.behaviour.the_replacement_runs.Goals as goal

pub returns-clause-replaced : goal.returns-clause-replaced
returns-clause-replaced c = λ job items first mid rest call user g h ran legal e has. replaced job items first mid rest call user g h ran legal e has

pub returns-clause-once : goal.returns-clause-once
returns-clause-once c = λ job items a b c d call u v g ran legal e first. replaced-once job items a b c d call u v g ran legal e first

pub returns-clause-own : goal.returns-clause-own
returns-clause-own c = λ job items before mid rest call ctx f g caller ran legal e none. unreplaced job items before mid rest call ctx f g caller ran legal e none
