use Rattle.filter_hash.proofs.EditLaws.{is_empty-removed}
use Rattle.filter_hash.proofs.laws.removal_of_all.Goals as goal

pub returns : goal.returns
returns c = is_empty-removed
