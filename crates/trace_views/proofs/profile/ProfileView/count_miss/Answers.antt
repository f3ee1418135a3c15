use Rattle.std.proofs.Common.{arith, refl, sym}
use Rattle.trace_views.proofs.ProfileCounts.{miss-counted, miss-uncounted}
use Rattle.trace_views.proofs.StackSteps.{none-at, some-at}
use Rattle.trace_views.proofs.profile.ProfileView.count_miss.Goals as goal

pub returns-in-Some-clause-users : goal.returns-in-Some-clause-users
returns-in-Some-clause-users c = λ job item past small are of.
    (let lt = c.in-Some.ensures.variant.0 refl in
    miss-counted job item past c.args.self.now.users.items are c.args.user.0 of c.in-Some.tally.now c.miss.new.self
    (some-at c.args.self.now.users.items c.args.user.0 c.in-Some.tally.now (omega (arith, lt, c.args.self.now.users.ok.0)) (sym c.in-Some.ensures.value))
    c.miss.ensures.rest.0 c.miss.ensures.rest.1 c.miss.ensures.missed)

pub returns-in_default-clause-users : goal.returns-in_default-clause-users
returns-in_default-clause-users c = λ job item past small are of.
    miss-uncounted job item past c.args.self.now.users.items are c.args.user.0 of
    (none-at c.args.self.now.users.items c.args.user.0 (λ lt. (let clash = c.in_default.ensures.variant.1 (omega (arith, lt, c.args.self.now.users.ok.0)) in absurd cc)))
