use Rattle.word_machine_laws.proofs.each_run_runs_on.Goals as goal
use Rattle.word_machine.specs.Machine.{start}
use Rattle.word_machine_laws.proofs.WordsFit.{start-runs, run-runs}

pub returns : goal.returns
returns c = λ job actors l. run-runs job l actors (start job) (start-runs job l)
