use Rattle.word_machine_laws.proofs.a_limited_job_runs_from_the_start.Goals as goal
use Rattle.word_machine_laws.proofs.WordsFit.{start-runs}

pub returns : goal.returns
returns c = λ job l. start-runs job l
