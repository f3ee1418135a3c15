use Rattle.hash_pages.proofs.WrittenLaws.{copy_kept, state_kept}
use Rattle.hash_pages.proofs.laws.a_page_leaves_the_other_copy.Goals as goal

pub returns-clause-copy : goal.returns-clause-copy
returns-clause-copy c = λ p pair n half w ws small. copy_kept p pair ws n half w small

pub returns-clause-state : goal.returns-clause-state
returns-clause-state c = λ p pair n ws h. state_kept p pair ws n h
