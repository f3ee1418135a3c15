use Rattle.ft_base.specs.Job.{Task}
use Rattle.ft_job.proofs.JobLaws.{seen-as}
use Rattle.ft_job.proofs.job.Job.cpu.Goals as goal

pub returns : goal.returns
returns c = seen-as c.self.inside.parts _ c.self.view_is c.self.invariant (λ (t : Task). t.cpu) c.as_slice.result.now c.as_slice.ensures.value c.args.task.0 _ c.find_cpu.ensures
