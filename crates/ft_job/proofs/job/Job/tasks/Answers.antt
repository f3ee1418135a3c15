use Rattle.std.proofs.Common.{◌∙◌}
use Rattle.ft_job.proofs.JobLaws.{seen-count, few-tasks}
use Rattle.ft_job.proofs.job.Job.tasks.Goals as goal

pub count-requires : goal.count-requires
count-requires c = rw c.as_slice.ensures.value (few-tasks c.self.inside.parts _ c.self.view_is c.self.invariant)

pub returns : goal.returns
returns c = (rw c.as_slice.ensures.value at c.count.ensures) ∙ seen-count c.self.inside.parts _ c.self.view_is
