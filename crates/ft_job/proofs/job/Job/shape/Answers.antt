use Rattle.std.proofs.Common.{sym, arith, subst}
use Rattle.word_map.specs.declared.shape.Shape.{Shape}
use Rattle.word_map.specs.Shapes.{IsShape}
use Rattle.ft_job.proofs.JobLaws.{users-count, few-users, seen-limited}
use Rattle.ft_job.proofs.Declared.{shape-is, shape-within}
use Rattle.ft_job.proofs.job.Job.shape.Goals as goal

pub overflow_cast-result : goal.overflow_cast-result
overflow_cast-result c =
    let few = few-users c.self.inside.parts _ c.self.view_is c.self.invariant in
    let many = users-count c.self.inside.parts _ c.self.view_is in
    let read = c.len-2.ensures in omega (arith, few, many, read)

pub returns-clause-counts : goal.returns-clause-counts
returns-clause-counts c =
    let p = c.self.inside.parts in
    rw (c.len.ensures.value, c.len-2.ensures, p.specs.ok.0, c.len-3.ensures, p.cpus.ok.0, c.tasks.ensures) (sym (shape-is p _ c.self.view_is))

pub returns-clause-within : goal.returns-clause-within
returns-clause-within c =
    let p = c.self.inside.parts in
    rw (c.len.ensures.value, c.len-2.ensures, p.specs.ok.0, c.len-3.ensures, p.cpus.ok.0, c.tasks.ensures)
    (subst (λ (s : Shape). IsShape s) (shape-is p _ c.self.view_is) (shape-within p _ c.self.view_is c.self.invariant))

pub returns-clause-limited : goal.returns-clause-limited
returns-clause-limited c = seen-limited c.self.inside.parts _ c.self.view_is c.self.invariant
