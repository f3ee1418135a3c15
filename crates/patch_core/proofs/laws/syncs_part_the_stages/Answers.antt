use Rattle.patch_core.proofs.MoveLaws.{store_at}
use Rattle.patch_core.proofs.laws.syncs_part_the_stages.Goals as goal

pub returns-clause-others : goal.returns-clause-others
returns-clause-others c = store_at
