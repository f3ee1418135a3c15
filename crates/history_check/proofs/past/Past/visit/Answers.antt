-- What is kept of a visit is what the items tell of it.
use Rattle.std.proofs.Common.{◌∙◌, ◌&&◌, sym, ap}
use Rattle.ft_hist.specs.Past.{all_visits, gets_frame}
use Rattle.history_check.proofs.FollowPast.{visit-is}
use Rattle.history_check.proofs.past.Past.visit.Goals as goal

pub returns-then-back : goal.returns-then-back
returns-then-back c = λ job past now k top.
    let n = c.registered_at-at.result in
    visit-is job past now c.args.self.now k c.args.top.now top c.args.user.0 n c.reg.result c.since.result c.args.back c.gets_frame.result
    (c.registered_at-at.ensures job k.desks) (c.reg.ensures job k.desks) (c.since.ensures job k.desks)
    (c.gets_frame.ensures job past now k top ∙ sym (ap (λ b. b && gets_frame job c.args.top.now.call c.args.user.0 past (all_visits job past)) c.if-back.true))
