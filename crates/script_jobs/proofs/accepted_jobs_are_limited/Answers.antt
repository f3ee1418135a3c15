use Rattle.script_jobs.proofs.accepted_jobs_are_limited.Goals as goal
use Rattle.script_jobs.proofs.Texts.{accepted_limited}

pub returns : goal.returns
returns c = λ text job is. accepted_limited text job is
