use Rattle.filter_hash.proofs.EditLaws.{holds-edited}
use Rattle.filter_hash.proofs.laws.edit_of_each_function.Goals as goal

pub returns : goal.returns
returns c = holds-edited
