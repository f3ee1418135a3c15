use Rattle.hash_pages.proofs.WrittenLaws.{has_pair, has_state}
use Rattle.hash_pages.proofs.laws.a_page_has_its_sets.Goals as goal

pub returns-clause-sets : goal.returns-clause-sets
returns-clause-sets c = λ p pair n ws size all. has_pair p pair ws n size all

pub returns-clause-state : goal.returns-clause-state
returns-clause-state c = λ p pair n ws all. has_state p pair ws n all
