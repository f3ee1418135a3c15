use Rattle.word_machine_laws.proofs.the_items_of_a_cpu_are_its_marks.Goals as goal
use Rattle.word_machine_laws.proofs.Limited.{limited}
use Rattle.word_machine_laws.proofs.Marked.{own-mark, other-mark, control-mark}

pub returns-clause-own : goal.returns-clause-own
returns-clause-own c = λ job s i item l r inside is. own-mark job (limited job l) s r.kept i inside item is

pub returns-clause-others : goal.returns-clause-others
returns-clause-others c = λ job s i other item l r inside ne is. other-mark job (limited job l) s r.kept i inside item is other ne

pub returns-clause-control : goal.returns-clause-control
returns-clause-control c = λ job s i item is. control-mark job s i item is
