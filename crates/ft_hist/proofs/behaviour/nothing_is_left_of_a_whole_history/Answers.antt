use Rattle.ft_hist.proofs.Wholes.{all-return, all-finished, all-returned, all-ended}
use Rattle.ft_hist.proofs.behaviour.nothing_is_left_of_a_whole_history.Goals as goal

pub returns-clause-commands : goal.returns-clause-commands
returns-clause-commands c = λ job items k whole lt. all-return job items whole k lt

pub returns-clause-acts : goal.returns-clause-acts
returns-clause-acts c = λ job items t whole within. all-finished job items whole t within

pub returns-clause-calls : goal.returns-clause-calls
returns-clause-calls c = λ job items a b call ctx f caller whole e. all-returned job items whole a b call ctx f caller e

pub returns-clause-callbacks : goal.returns-clause-callbacks
returns-clause-callbacks c = λ job items a b x call u whole e begins. all-ended job items whole a b x call u e begins
