use Rattle.job_outcomes.proofs.Next.{outcome-next}
use Rattle.job_outcomes.proofs.outcomes_go_on_alike.Goals as goal

pub returns : goal.returns
returns c = outcome-next
