use Rattle.script_waits.proofs.Unique.{deadlock_one}
use Rattle.script_waits.proofs.Found.{deadlock_found}
use Rattle.script_waits.proofs.ending.deadlock_is_one.Goals as goal

pub returns : goal.returns
returns c = record { some = deadlock_found; one = deadlock_one }
