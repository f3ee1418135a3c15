use Rattle.ft_machine.proofs.NextLaws.{no-step, step-past, step-words}
use Rattle.ft_machine.proofs.laws.a_step_makes_the_next_operation.Goals as goal

pub returns-clause-none : goal.returns-clause-none
returns-clause-none c = λ job a s. no-step job a s

pub returns-clause-words : goal.returns-clause-words
returns-clause-words c = λ job a s. step-words job a s

pub returns-clause-past : goal.returns-clause-past
returns-clause-past c = λ job a s. step-past job a s
