use Rattle.ft_base.specs.Desk.{desk, user_at}
use Rattle.ft_base.specs.Job.{Job}
use Rattle.history_check.specs.DeskRows.{AreOf, IsSightOf}
use Rattle.history_check.proofs.DeskRowLaws.{copied-at, found-there}
use Rattle.history_check.proofs.desks.Desks.sight.Goals as goal

pub returns-clause-some : goal.returns-clause-some
returns-clause-some c =
    found-there (λ s. (job : Job) → AreOf job c.args.self.now → IsSightOf (user_at (desk job c.args.k) c.args.u.0) s) c.in_ok-row.field-0.now.users.items c.args.u.0 c.get.result
    (copied-at c.in_ok-row.field-0.now.users.items c.args.u.0 c.get.result (rw c.deref.ensures.value at c.get.ensures.lookup)) (λ s at job are. (c.in_ok-row.ensures.some job are).users.each c.args.u.0 s at)
