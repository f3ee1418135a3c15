use Rattle.word_machine_laws.proofs.no_task_is_in_a_released_trampoline.Goals as goal
use Rattle.word_machine_laws.proofs.Limited.{limited}
use Rattle.word_machine_laws.proofs.Never.{in-tramp, in-own}

pub returns-clause-before_the_word : goal.returns-clause-before_the_word
returns-clause-before_the_word c = λ job s i t top below slot l r at'. in-tramp job (limited job l) s r.kept i t top below slot at'

pub returns-clause-before_the_state : goal.returns-clause-before_the_state
returns-clause-before_the_state c = λ job s i t top below u reg l r at'. in-own job (limited job l) s r.kept i t top below u reg at'
