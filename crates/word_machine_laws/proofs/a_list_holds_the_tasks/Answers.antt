use Rattle.word_machine_laws.proofs.a_list_holds_the_tasks.Goals as goal
use Rattle.word_machine_laws.proofs.ValueLaws.{tasks-start, tasks-put}

pub returns-clause-start : goal.returns-clause-start
returns-clause-start c = λ job n. tasks-start job n

pub returns-clause-put : goal.returns-clause-put
returns-clause-put c = λ job tasks t x lt. tasks-put job tasks t x lt
