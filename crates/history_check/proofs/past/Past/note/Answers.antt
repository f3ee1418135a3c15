use Rattle.std.proofs.Common.{refl, subst}
use Rattle.history_check.specs.JudgePast.{IsFirstBroken}
use Rattle.history_check.proofs.FollowPast.{begun-fits, done-fits}
use Rattle.history_check.proofs.past.Past.note.Goals as goal

pub first_broken-broken-requires-clause-done : goal.first_broken-broken-requires-clause-done
first_broken-broken-requires-clause-done c = let r = c.requires in done-fits r.0 r.1 r.1 c.args.self.now r.2 r.3 c.args.self.now.done refl

pub first_broken-broken-requires-clause-begun : goal.first_broken-broken-requires-clause-begun
first_broken-broken-requires-clause-begun c = let r = c.requires in begun-fits r.0 r.1 r.1 c.args.self.now r.2 r.3 c.args.self.now.begun refl

pub returns-in_ok-take_in : goal.returns-in_ok-take_in
returns-in_ok-take_in c = λ job past is.
    let goes = c.in_ok-goes_on.ensures in
    let on = c.if-not-branch.false in
    let first = c.first_broken-broken.ensures job past is ((goes.told job past is).0 on) in
    record {
      told' = first;
      kept = λ e. let may = subst (λ o. IsFirstBroken job past c.args.item.now o) e first in c.in_ok-take_in.ensures job past (goes.kept job past is on) may.run may.commands;
    }
