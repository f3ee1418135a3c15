use Rattle.ft_job.proofs.JobLaws.{seen-lines-plan}
use Rattle.ft_job.proofs.job.Job.lanes.Goals as goal

pub returns-clause-planned : goal.returns-clause-planned
returns-clause-planned c = seen-lines-plan c.self.inside.parts _ c.self.view_is c.self.invariant
