use Rattle.ft_hist.proofs.FullStack.{no-depth, no-exit, misses, missed}
use Rattle.ft_hist.proofs.theorems.a_full_stack_leaves_no_exit.Goals as goal

pub returns-clause-kind : goal.returns-clause-kind
returns-clause-kind c = λ job items first rest call user legal e full. no-depth job items first rest call user legal e full

pub returns-clause-exit : goal.returns-clause-exit
returns-clause-exit c = λ job items first rest call user legal e full. no-exit job items first rest call user legal e full

pub returns-clause-miss : goal.returns-clause-miss
returns-clause-miss c = λ job items first mid rest call user x legal e full exits none own. misses job items first mid rest call user x legal e full exits none own

pub returns-clause-alone : goal.returns-clause-alone
returns-clause-alone c = λ job items first rest call user legal e. missed job items first rest call user legal e
