use Rattle.word_machine_laws.proofs.a_list_holds_the_copies.Goals as goal
use Rattle.word_machine_laws.proofs.ValueLaws.{copies-start, copies-put}

pub returns-clause-start : goal.returns-clause-start
returns-clause-start c = λ n. copies-start n

pub returns-clause-put : goal.returns-clause-put
returns-clause-put c = λ copies u copy lt. copies-put copies u copy lt
