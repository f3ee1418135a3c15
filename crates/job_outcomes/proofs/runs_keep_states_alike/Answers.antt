use Rattle.job_outcomes.proofs.Alike.{run-alike}
use Rattle.job_outcomes.proofs.runs_keep_states_alike.Goals as goal

pub returns : goal.returns
returns c = run-alike
