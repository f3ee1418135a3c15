use Rattle.word_machine_laws.proofs.each_site_is_settled.Goals as goal
use Rattle.word_machine.specs.Machine.{run, start}
use Rattle.word_machine_laws.proofs.Limited.{limited}
use Rattle.word_machine_laws.proofs.Steps.{run_kept}
use Rattle.word_machine_laws.proofs.Settled.{settled}

pub returns : goal.returns
returns c = λ job actors f l inside. settled job (run job actors (start job)) (run_kept job (limited job l) actors) f inside
