use Rattle.std.proofs.Common.{ap₂, ◌∙◌}
use Rattle.ft_base.specs.Desk.{desk}
use Rattle.ft_desk.specs.Declarations.{job_of as job_of_desk}
use Rattle.ft_desk.specs.Sites.{row_at}
use Rattle.ft_job.proofs.DeskLaws.{row-is}
use Rattle.ft_job.proofs.job.Job.desk.Goals as goal

pub returns-clause-state : goal.returns-clause-state
returns-clause-state c =
    let made = c.in_ok-desk.ensures in
    c.plan_first.ensures.state c.args.self.now made.declared made.lines

pub returns-clause-rows : goal.returns-clause-rows
returns-clause-rows c = λ f.
    let made = c.in_ok-desk.ensures in
    ap₂ (λ d t. row_at (job_of_desk d) t f) c.plan_first.ensures.declared (c.plan_first.ensures.state c.args.self.now made.declared made.lines)
    ∙ row-is c.args.self.now c.in_ok-desk.desk.declared made.declared (desk c.args.self.now c.args.k) f
