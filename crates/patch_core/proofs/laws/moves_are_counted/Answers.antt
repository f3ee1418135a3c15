use Rattle.patch_core.proofs.MoveLaws.{done_exactly}
use Rattle.patch_core.proofs.laws.moves_are_counted.Goals as goal

pub returns-clause-done : goal.returns-clause-done
returns-clause-done c = done_exactly
