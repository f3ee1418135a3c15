-- A callback and a refusal are visits of the top call.
use Rattle.std.proofs.Common.{◌∷◌, ap}
use Rattle.ft_base.specs.Items.{call_of}
use Rattle.history_check.specs.JudgePast.{is_enter}
use Rattle.history_check.proofs.FollowPast.{by-none, no-top, not-visit, visit-back, visit-refuse}
use Rattle.history_check.proofs.past.Past.visit_by.Goals as goal

pub returns-in_ok-top-in-Back : goal.returns-in_ok-top-in-Back
returns-in_ok-top-in-Back c = λ job past k goes.
    visit-back job past c.args.item.now c.in-Back.call c.in-Back.user c.in-Back.is c.in_ok-top-in-Back.field-0.now (c.in_ok-top-in-Back.ensures job past (c.args.item.now ∷ past) k goes) c.visit.result
    (λ top. c.visit.ensures job past (c.args.item.now ∷ past) k top)

pub returns-in_ok-top-in-Refuse : goal.returns-in_ok-top-in-Refuse
returns-in_ok-top-in-Refuse c = λ job past k goes.
    visit-refuse job past c.args.item.now c.in-Refuse.call c.in-Refuse.user c.in-Refuse.reason c.in-Refuse.is c.in_ok-top-in-Refuse.field-0.now (c.in_ok-top-in-Refuse.ensures job past (c.args.item.now ∷ past) k goes) c.visit-in-Refuse.result
    (λ top. c.visit-in-Refuse.ensures job past (c.args.item.now ∷ past) k top)

pub returns-in_default : goal.returns-in_default
returns-in_default c = λ job past k goes. by-none job past c.args.item.now (not-visit c.args.item.now c.in_default.not-Back c.in_default.not-Refuse)

pub returns-in_err-top-in-Back : goal.returns-in_err-top-in-Back
returns-in_err-top-in-Back c = λ job past k goes.
    let item = c.args.item.now in
    absurd (no-top job past item (c.in_err-top-in-Back.ensures job past (item ∷ past) k goes) c.in-Back.call (ap call_of c.in-Back.is) (ap is_enter c.in-Back.is))

pub returns-in_err-top-in-Refuse : goal.returns-in_err-top-in-Refuse
returns-in_err-top-in-Refuse c = λ job past k goes.
    let item = c.args.item.now in
    absurd (no-top job past item (c.in_err-top-in-Refuse.ensures job past (item ∷ past) k goes) c.in-Refuse.call (ap call_of c.in-Refuse.is) (ap is_enter c.in-Refuse.is))
