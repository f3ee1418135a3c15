use Rattle.std.proofs.Common.{◌∷◌}
use Rattle.history_check.proofs.FollowPast.{in-context, no-top}
use Rattle.history_check.proofs.FollowTask.{not-enter}
use Rattle.history_check.proofs.past.Past.context_of.Goals as goal

pub returns-in-Some : goal.returns-in-Some
returns-in-Some c = λ job past k goes. in-context job past c.args.item.now c.in-Some.top.now (c.in-Some.ensures job past (c.args.item.now ∷ past) k goes)

pub returns-in-None : goal.returns-in-None
returns-in-None c = λ job past k goes call of inside.
    let item = c.args.item.now in
    absurd (no-top job past item (c.in-None.ensures job past (item ∷ past) k goes) call of (not-enter item inside))
