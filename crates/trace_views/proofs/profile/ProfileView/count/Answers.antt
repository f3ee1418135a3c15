use Rattle.std.proofs.Common.{◌≡◌, ◌-◌, ◌∙◌, refl, sym, ap, subst, rules, arith}
use Rattle.ft_base.specs.declared.item.Item.{Item}
use Rattle.ft_base.specs.declared.item.Item.TheVariants.{Refuse, Miss}
use Rattle.ft_base.specs.declared.item.Reason.{Reason}
use Rattle.ft_base.specs.declared.item.Reason.TheVariants.{Recursion}
use Rattle.trace_views.specs.OpenCalls.{stacks_in}
use Rattle.trace_views.specs.ProfileViews.{IsMissOf}
use Rattle.trace_views.specs.TaskStacks.{stack_at}
use Rattle.trace_views.proofs.FollowLaws.{some-open}
use Rattle.trace_views.proofs.ProfileCounts.{back-counted, back-top, back-uncounted, exit-after, exit-counted, exit-top, exit-uncounted, hits-room, missed-room, row-room, time-has-room}
use Rattle.trace_views.proofs.StackSteps.{none-at, some-at}
use Rattle.trace_views.proofs.profile.ProfileView.count.Goals as goal

pub top-requires : goal.top-requires
top-requires c =
    some-open (stack_at (stacks_in c.args.self.now.«open») c.in-Back.call.task.0) _ (back-top c.requires.0 c.requires.1 c.args.self.now c.requires.2 c.args.item.now c.requires.3 c.in-Back.call c.in-Back.user c.in-Back.is)

pub back-requires-clause-row : goal.back-requires-clause-row
back-requires-clause-row c =
    let lt = c.in-Some.ensures.variant.0 refl in
    let here = some-at c.args.self.now.users.items c.in-Back.user.0 c.in-Some.tally.now (omega (arith, lt, c.args.self.now.users.ok.0)) (sym c.in-Some.ensures.value) in
    row-room c.requires.0 c.requires.1 c.in-Back.user.0 c.in-Some.tally.now (c.requires.2.users.each c.in-Back.user.0 c.in-Some.tally.now here) c.requires.4 c.top.result.func.0

pub back-requires-clause-all : goal.back-requires-clause-all
back-requires-clause-all c =
    let lt = c.in-Some.ensures.variant.0 refl in
    let here = some-at c.args.self.now.users.items c.in-Back.user.0 c.in-Some.tally.now (omega (arith, lt, c.args.self.now.users.ok.0)) (sym c.in-Some.ensures.value) in
    hits-room c.requires.0 c.requires.1 c.in-Back.user.0 c.in-Some.tally.now (c.requires.2.users.each c.in-Back.user.0 c.in-Some.tally.now here) c.requires.4

pub top-requires-in-Exit : goal.top-requires-in-Exit
top-requires-in-Exit c =
    some-open (stack_at (stacks_in c.args.self.now.«open») c.in-Exit.call.task.0) _ (exit-top c.requires.0 c.requires.1 c.args.self.now c.requires.2 c.args.item.now c.requires.3 c.in-Exit.call c.in-Exit.user c.in-Exit.entry c.in-Exit.is)

pub overflow_sub-time : goal.overflow_sub-time
overflow_sub-time c =
    let lt = exit-after c.requires.0 c.requires.1 c.args.self.now c.requires.2 c.args.item.now c.requires.3 c.in-Exit.call c.in-Exit.user c.in-Exit.entry c.in-Exit.is in
    omega (arith, lt)

pub exit-requires : goal.exit-requires
exit-requires c =
    let lt = c.in-Some-get_mut.ensures.variant.0 refl in
    let here = some-at c.args.self.now.users.items c.in-Exit.user.0 c.in-Some-get_mut.tally.now (omega (arith, lt, c.args.self.now.users.ok.0)) (sym c.in-Some-get_mut.ensures.value) in
    let place = c.requires.2.place' in
    let small = c.requires.4 in
    time-has-room c.requires.0 c.requires.1 c.in-Exit.user.0 c.in-Some-get_mut.tally.now (c.requires.2.users.each c.in-Exit.user.0 c.in-Some-get_mut.tally.now here) c.requires.4 c.top-in-Exit.result.func.0
    (c.args.self.now.place - c.in-Exit.entry) (omega (arith, place, small))

pub count_miss-requires : goal.count_miss-requires
count_miss-requires c = λ tally here. missed-room c.requires.0 c.requires.1 c.in-Refuse.user.0 tally (c.requires.2.users.each c.in-Refuse.user.0 tally here) c.requires.4

pub count_miss-requires-in-Miss : goal.count_miss-requires-in-Miss
count_miss-requires-in-Miss c = λ tally here. missed-room c.requires.0 c.requires.1 c.in-Miss.user.0 tally (c.requires.2.users.each c.in-Miss.user.0 tally here) c.requires.4

pub returns-in-Some-clause-users : goal.returns-in-Some-clause-users
returns-in-Some-clause-users c = λ job past told legal small.
    (let lt = c.in-Some.ensures.variant.0 refl in
    back-counted job past c.args.self.now told c.args.item.now legal c.in-Back.call c.in-Back.user c.in-Back.is c.top.result c.top.ensures c.in-Some.tally.now c.back.new.self
    (some-at c.args.self.now.users.items c.in-Back.user.0 c.in-Some.tally.now (omega (arith, lt, c.args.self.now.users.ok.0)) (sym c.in-Some.ensures.value))
    c.back.ensures.rows c.back.ensures.hits c.back.ensures.missed)

pub returns-in_default-get_mut-clause-users : goal.returns-in_default-get_mut-clause-users
returns-in_default-get_mut-clause-users c = λ job past told legal small.
    back-uncounted job past c.args.self.now told c.args.item.now legal c.in-Back.call c.in-Back.user c.in-Back.is
    (none-at c.args.self.now.users.items c.in-Back.user.0 (λ lt. (let clash = c.in_default-get_mut.ensures.variant.1 (omega (arith, lt, c.args.self.now.users.ok.0)) in absurd cc)))

pub returns-in-Some-get_mut-clause-users : goal.returns-in-Some-get_mut-clause-users
returns-in-Some-get_mut-clause-users c = λ job past told legal small.
    (let lt = c.in-Some-get_mut.ensures.variant.0 refl in
    exit-counted job past c.args.self.now told c.args.item.now legal c.in-Exit.call c.in-Exit.user c.in-Exit.entry c.in-Exit.is c.top-in-Exit.result c.top-in-Exit.ensures c.in-Some-get_mut.tally.now c.exit.new.self
    (some-at c.args.self.now.users.items c.in-Exit.user.0 c.in-Some-get_mut.tally.now (omega (arith, lt, c.args.self.now.users.ok.0)) (sym c.in-Some-get_mut.ensures.value))
    c.exit.ensures.rows c.exit.ensures.counts.0 c.exit.ensures.counts.1)

pub returns-in_default-get_mut-2-clause-users : goal.returns-in_default-get_mut-2-clause-users
returns-in_default-get_mut-2-clause-users c = λ job past told legal small.
    exit-uncounted job past c.args.self.now told c.args.item.now legal c.in-Exit.call c.in-Exit.user c.in-Exit.entry c.in-Exit.is
    (none-at c.args.self.now.users.items c.in-Exit.user.0 (λ lt. (let clash = c.in_default-get_mut-2.ensures.variant.1 (omega (arith, lt, c.args.self.now.users.ok.0)) in absurd cc)))

pub returns-then-eq-clause-users : goal.returns-then-eq-clause-users
returns-then-eq-clause-users c = λ job past told legal small.
    (let same : c.in-Refuse.reason ≡ Recursion = search rules in
    let is : c.args.item.now ≡ Refuse c.in-Refuse.call c.in-Refuse.user Recursion = c.in-Refuse.is ∙ ap (λ (r : Reason). Refuse c.in-Refuse.call c.in-Refuse.user r) same in
    let of : IsMissOf c.in-Refuse.user.0 (Refuse c.in-Refuse.call c.in-Refuse.user Recursion) = refl in
    c.count_miss.ensures.users job c.args.item.now past small told.users (subst (λ (x : Item). IsMissOf c.in-Refuse.user.0 x) (sym is) of))

pub returns-in-Miss-clause-users : goal.returns-in-Miss-clause-users
returns-in-Miss-clause-users c = λ job past told legal small.
    (let of : IsMissOf c.in-Miss.user.0 (Miss c.in-Miss.call c.in-Miss.user) = refl in
    c.count_miss-in-Miss.ensures.users job c.args.item.now past small told.users (subst (λ (x : Item). IsMissOf c.in-Miss.user.0 x) (sym c.in-Miss.is) of))
