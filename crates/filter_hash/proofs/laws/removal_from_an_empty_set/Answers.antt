use Rattle.filter_hash.proofs.EditLaws.{is_empty-still}
use Rattle.filter_hash.proofs.laws.removal_from_an_empty_set.Goals as goal

pub returns : goal.returns
returns c = is_empty-still
