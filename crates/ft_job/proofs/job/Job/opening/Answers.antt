use Rattle.std.proofs.Common.{◌≡◌, ◌∙◌, sym, ap}
use Rattle.ft_desk.specs.DeskView.{DeskView, opened}
use Rattle.ft_job.proofs.JobLaws.{users-count, seen-lines}
use Rattle.ft_job.proofs.Declared.{kept, is-of, shape-within, lines-in}
use Rattle.ft_job.proofs.job.Job.opening.Goals as goal
use Rattle.ft_job.proofs.job.Job.opening.Goals.{After-as_slice-2}

pub new-requires-clause-shape : goal.new-requires-clause-shape
new-requires-clause-shape c = rw c.shape.ensures.counts (shape-within c.self.inside.parts _ c.self.view_is c.self.invariant)

pub new-requires-clause-users : goal.new-requires-clause-users
new-requires-clause-users c = rw (c.as_slice.ensures.value, c.shape.ensures.counts) (users-count c.self.inside.parts _ c.self.view_is)

-- the desk is that of the job before the first command
desk-is : (c : After-as_slice-2) → c.in_ok-desk.desk ≡ opened (kept c.self.inside.parts c.args.self.now)
desk-is c = (rw (c.as_slice.ensures.value, c.shape.ensures.counts) at c.in_ok-desk.ensures)

pub returns-clause-opened : goal.returns-clause-opened
returns-clause-opened c =
    let e = desk-is (goal.at.returns-clause-opened c).After-as_slice-2 in
    e ∙ ap opened (sym (ap (λ (s : DeskView). s.declared) e))

pub returns-clause-declared : goal.returns-clause-declared
returns-clause-declared c =
    rw (desk-is (goal.at.returns-clause-declared c).After-as_slice-2) (is-of c.self.inside.parts _ c.self.view_is)

pub returns-clause-named : goal.returns-clause-named
returns-clause-named c =
    rw (c.as_slice-2.ensures.value, desk-is (goal.at.returns-clause-named c).After-as_slice-2)
    (lines-in c.self.inside.parts _ c.self.view_is c.self.invariant)

pub returns-clause-lines : goal.returns-clause-lines
returns-clause-lines c =
    rw (desk-is (goal.at.returns-clause-lines c).After-as_slice-2, c.as_slice-2.ensures.value) (seen-lines c.self.inside.parts _ c.self.view_is)
