use Rattle.word_machine_laws.proofs.the_clock_has_room.Goals as goal
use Rattle.word_machine_laws.proofs.Limited.{limited}
use Rattle.word_machine_laws.proofs.Steps.{run_kept}

pub returns : goal.returns
returns c = λ job actors l. (run_kept job (limited job l) actors).counts.room
