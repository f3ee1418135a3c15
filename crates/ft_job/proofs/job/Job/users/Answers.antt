use Rattle.std.proofs.Common.{arith, ◌∙◌}
use Rattle.ft_job.proofs.JobLaws.{users-count, few-users, seen-limited}
use Rattle.ft_job.proofs.job.Job.users.Goals as goal

pub overflow_cast-result : goal.overflow_cast-result
overflow_cast-result c =
    let few = few-users c.self.inside.parts _ c.self.view_is c.self.invariant in
    let many = users-count c.self.inside.parts _ c.self.view_is in
    let read = c.len.ensures in omega (arith, few, many, read)

pub returns : goal.returns
returns c = record {
  count = c.len.ensures ∙ c.self.inside.parts.specs.ok.0 ∙ users-count c.self.inside.parts _ c.self.view_is;
  limited = seen-limited c.self.inside.parts _ c.self.view_is c.self.invariant;
}
