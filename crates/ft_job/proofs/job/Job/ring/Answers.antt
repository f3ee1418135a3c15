use Rattle.ft_job.proofs.JobLaws.{seen-rings-plan}
use Rattle.ft_job.proofs.job.Job.ring.Goals as goal

pub returns-clause-planned : goal.returns-clause-planned
returns-clause-planned c = seen-rings-plan c.self.inside.parts _ c.self.view_is c.self.invariant
