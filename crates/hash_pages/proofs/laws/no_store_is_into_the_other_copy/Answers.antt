use Rattle.hash_pages.proofs.PageLaws.{copies_apart}
use Rattle.hash_pages.proofs.laws.no_store_is_into_the_other_copy.Goals as goal

pub returns : goal.returns
returns c = copies_apart
