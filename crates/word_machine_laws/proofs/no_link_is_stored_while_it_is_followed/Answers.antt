use Rattle.word_machine_laws.proofs.no_link_is_stored_while_it_is_followed.Goals as goal
use Rattle.word_machine_laws.proofs.Limited.{limited}
use Rattle.word_machine_laws.proofs.Never.{link-unused}

pub returns : goal.returns
returns c = λ job s i t top below m u l r at' is e x. link-unused job (limited job l) s r.kept i t top below m u at' is e x
