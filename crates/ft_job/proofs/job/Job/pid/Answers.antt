use Rattle.std.proofs.Common.{ℕ, List}
use Rattle.ft_base.specs.declared.task.TaskAct.{TaskAct}
use Rattle.ft_job.proofs.JobLaws.{seen-said}
use Rattle.ft_job.proofs.job.Job.pid.Goals as goal

pub returns-in-Some : goal.returns-in-Some
returns-in-Some c = seen-said c.self.inside.parts _ c.self.view_is c.self.invariant (λ (x : ℕ × List TaskAct). x.0) c.as_slice.result.now c.as_slice.ensures.value c.args.task.0 _ c.in-Some.ensures

pub returns-in-None : goal.returns-in-None
returns-in-None c = seen-said c.self.inside.parts _ c.self.view_is c.self.invariant (λ (x : ℕ × List TaskAct). x.0) c.as_slice.result.now c.as_slice.ensures.value c.args.task.0 _ c.in-None.ensures
