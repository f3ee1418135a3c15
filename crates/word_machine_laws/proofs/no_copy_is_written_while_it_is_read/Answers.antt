use Rattle.word_machine_laws.proofs.no_copy_is_written_while_it_is_read.Goals as goal
use Rattle.word_machine_laws.proofs.Limited.{limited}
use Rattle.word_machine_laws.proofs.Never.{copy-unread}

pub returns : goal.returns
returns c = λ job s i t top below m u copy l r at' e x. copy-unread job (limited job l) s r.kept i t top below m u copy at' e x
