use Rattle.ft_hist.specs.Past.{visits}
use Rattle.history_check.proofs.RuleFetches.{own-is}
use Rattle.history_check.proofs.rules.fetches.lets_in.Goals as goal

pub returns-in-Own : goal.returns-in-Own
returns-in-Own c = λ job items top.
    let t = c.args.top.now in
    rw c.in-Own.is (own-is t.call c.in-Own.user.0 t.visits.items (visits job t.call items) top.is.visits' c.has_only.result c.has_only.ensures)
