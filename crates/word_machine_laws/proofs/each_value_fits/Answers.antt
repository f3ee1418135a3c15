use Rattle.word_machine_laws.proofs.each_value_fits.Goals as goal
use Rattle.word_machine.specs.Machine.{run, start}
use Rattle.word_machine_laws.proofs.Limited.{limited}
use Rattle.word_machine_laws.proofs.Steps.{run_kept}
use Rattle.word_machine_laws.proofs.Takes.{takes}

pub returns : goal.returns
returns c = λ job actors i t top below m l at'. takes job (limited job l) (run job actors (start job)) (run_kept job (limited job l) actors) i t top below m at'
