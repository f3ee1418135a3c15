use Rattle.ft_job.proofs.JobLaws.{seen-lines}
use Rattle.ft_job.proofs.job.Job.ctls.Goals as goal

pub returns : goal.returns
returns c = rw c.as_slice.ensures.value (seen-lines c.self.inside.parts _ c.self.view_is)
