use Rattle.ft_hist.proofs.Unregistered.{no_callback, no_exit}
use Rattle.ft_hist.proofs.theorems.silent_after_unregistration.Goals as goal

pub returns-clause-back : goal.returns-clause-back
returns-clause-back c = λ job items first second third k call user is legal command none e. no_callback job is items first second third k call user legal command e none

pub returns-clause-exit : goal.returns-clause-exit
returns-clause-exit c = λ job items first second third k call user entry is legal command none e. no_exit job is items first second third k call user legal command entry e none
