use Rattle.word_machine_laws.proofs.each_step_runs_on.Goals as goal
use Rattle.word_machine_laws.proofs.WordsFit.{step-runs}

pub returns : goal.returns
returns c = λ job a s l r. step-runs job l a s r
