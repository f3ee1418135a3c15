-- The set after an insert has the key of the visit, and the keys that it had.
use Rattle.std.proofs.Common.{◌&&◌, ◌==◌, ◌∙◌}
use Rattle.ft_base.specs.Same.{same_call}
use Rattle.history_check.specs.CallbackCheck.{is_visit_in}
use Rattle.history_check.proofs.CheckMaps.{cond-true}
use Rattle.history_check.proofs.backs.add_visit.Goals as goal

pub returns-in-Ok-clause-kept : goal.returns-in-Ok-clause-kept
returns-in-Ok-clause-kept c = λ q u.
    c.in-Ok.ensures.updates.0 (q.task.0, q.n, u) ∙ cond-true (same_call c.args.call q && (c.args.user.0 == u)) (is_visit_in c.args.visited.now q u)
