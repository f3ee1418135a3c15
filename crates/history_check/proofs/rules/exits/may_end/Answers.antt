use Rattle.history_check.proofs.RuleTests.{fails, no}
use Rattle.history_check.proofs.rules.exits.may_end.Goals as goal

pub returns-then-not-is_at : goal.returns-then-not-is_at
returns-then-not-is_at c = λ job items call k. no (λ h. fails c.is_at.result c.is_at.ensures c.if-not-is_at.true (h.0, h.1))

pub returns-then-not-has_exit : goal.returns-then-not-has_exit
returns-then-not-has_exit c = λ job items call k. no (λ h. fails c.has_exit.result (c.has_exit.ensures job items call k) c.if-not-has_exit.true h.2)

pub returns : goal.returns
returns c = λ job items call k.
    let at = c.is_at.ensures.0 c.if-not-is_at.false in
    let exit = (c.has_exit.ensures job items call k).0 c.if-not-has_exit.false in
    let live = c.is_live.ensures job items k in
    (λ e. (at.0, at.1, exit, live.0 e), λ h. live.1 h.3)
