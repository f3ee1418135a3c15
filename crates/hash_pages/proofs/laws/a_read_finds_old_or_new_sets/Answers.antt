use Rattle.hash_pages.proofs.FoundLaws.{finds_old, finds_new}
use Rattle.hash_pages.proofs.laws.a_read_finds_old_or_new_sets.Goals as goal

pub returns-clause-before : goal.returns-clause-before
returns-clause-before c = finds_old

pub returns-clause-after : goal.returns-clause-after
returns-clause-after c = finds_new
