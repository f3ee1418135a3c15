-- Each item goes with the calls that are open, and moves what is kept.
use Rattle.std.proofs.Common.{refl, sym, ◌∙◌, arith}
use Rattle.std.proofs.lemmas.Result.{on_ok_weaker}
use Rattle.ft_base.specs.declared.item.Item.TheVariants.{Enter, Back, Exit, Ret}
use Rattle.ft_base.specs.Job.{Job}
use Rattle.trace_views.specs.GraphLines.{IsWalkAt}
use Rattle.trace_views.proofs.WalkLaws.{Walking, walking, goes-here, in-open, in-levels, in-latest, is-open, backs-within, backs-room, level-room, after-enter, after-ret, after-back, after-exit, after-back-other, after-exit-other, after-rest, not-moving}
use Rattle.trace_views.proofs.graph.Walk.follow.Goals as goal
use Rattle.trace_views.proofs.graph.Walk.follow.Goals.{In-Enter, In-Back, In-Exit, In-Ret}

-- the walk of a legal history, at each kind of item
enter : (c : In-Enter) (job : Job) → IsWalkAt job c.args.user.0 c.args.place c.args.history.now.items c.args.self.now
    → Walking job c.args.user.0 c.args.place c.args.history.now.items c.args.self.now (Enter c.in-Enter.call c.in-Enter.ctx c.in-Enter.func c.in-Enter.caller)
enter c job so_far = walking (Enter c.in-Enter.call c.in-Enter.ctx c.in-Enter.func c.in-Enter.caller) so_far c.item.ensures c.in-Enter.is

back : (c : In-Back) (job : Job) → IsWalkAt job c.args.user.0 c.args.place c.args.history.now.items c.args.self.now
    → Walking job c.args.user.0 c.args.place c.args.history.now.items c.args.self.now (Back c.in-Back.call c.in-Back.whose)
back c job so_far = walking (Back c.in-Back.call c.in-Back.whose) so_far c.item.ensures c.in-Back.is

exit : (c : In-Exit) (job : Job) → IsWalkAt job c.args.user.0 c.args.place c.args.history.now.items c.args.self.now
    → Walking job c.args.user.0 c.args.place c.args.history.now.items c.args.self.now (Exit c.in-Exit.call c.in-Exit.whose c.in-Exit.entry)
exit c job so_far = walking (Exit c.in-Exit.call c.in-Exit.whose c.in-Exit.entry) so_far c.item.ensures c.in-Exit.is

ret : (c : In-Ret) (job : Job) → IsWalkAt job c.args.user.0 c.args.place c.args.history.now.items c.args.self.now
    → Walking job c.args.user.0 c.args.place c.args.history.now.items c.args.self.now (Ret c.in-Ret.call c.in-Ret.to)
ret c job so_far = walking (Ret c.in-Ret.call c.in-Ret.to) so_far c.item.ensures c.in-Ret.is

pub push-requires : goal.push-requires
push-requires c = let k = enter (goal.at.push-requires c).In-Enter c.requires.so_far.0 c.requires.so_far.1 in rw k.at.kept.open'.tasks' (goes-here k).0

pub leave-requires-clause-task : goal.leave-requires-clause-task
leave-requires-clause-task c = let k = ret (goal.at.leave-requires-clause-task c).In-Ret c.requires.so_far.0 c.requires.so_far.1 in in-open k c.in-Ret.call (goes-here k)

pub leave-requires-clause-levels : goal.leave-requires-clause-levels
leave-requires-clause-levels c = let k = ret (goal.at.leave-requires-clause-levels c).In-Ret c.requires.so_far.0 c.requires.so_far.1 in in-levels k c.in-Ret.call (goes-here k)

pub leave-requires-clause-open : goal.leave-requires-clause-open
leave-requires-clause-open c = let k = ret (goal.at.leave-requires-clause-open c).In-Ret c.requires.so_far.0 c.requires.so_far.1 in is-open k c.in-Ret.call (goes-here k)

pub leave-requires-clause-backs : goal.leave-requires-clause-backs
leave-requires-clause-backs c = let k = ret (goal.at.leave-requires-clause-backs c).In-Ret c.requires.so_far.0 c.requires.so_far.1 in backs-within k c.in-Ret.call (goes-here k)

pub back-requires-clause-task : goal.back-requires-clause-task
back-requires-clause-task c = let k = back (goal.at.back-requires-clause-task c).In-Back c.requires.so_far.0 c.requires.so_far.1 in in-open k c.in-Back.call (goes-here k)

pub back-requires-clause-levels : goal.back-requires-clause-levels
back-requires-clause-levels c = let k = back (goal.at.back-requires-clause-levels c).In-Back c.requires.so_far.0 c.requires.so_far.1 in in-levels k c.in-Back.call (goes-here k)

pub back-requires-clause-latest : goal.back-requires-clause-latest
back-requires-clause-latest c = let k = back (goal.at.back-requires-clause-latest c).In-Back c.requires.so_far.0 c.requires.so_far.1 in in-latest k c.in-Back.call (goes-here k)

pub back-requires-clause-open : goal.back-requires-clause-open
back-requires-clause-open c = let k = back (goal.at.back-requires-clause-open c).In-Back c.requires.so_far.0 c.requires.so_far.1 in is-open k c.in-Back.call (goes-here k)

pub back-requires-clause-room : goal.back-requires-clause-room
back-requires-clause-room c = let k = back (goal.at.back-requires-clause-room c).In-Back c.requires.so_far.0 c.requires.so_far.1 in backs-room k c.in-Back.call (goes-here k) (omega arith)

pub back-requires-clause-more : goal.back-requires-clause-more
back-requires-clause-more c = let k = back (goal.at.back-requires-clause-more c).In-Back c.requires.so_far.0 c.requires.so_far.1 in level-room k c.in-Back.call (goes-here k) (omega arith)

pub index_mut-requires : goal.index_mut-requires
index_mut-requires c =
    let k = exit (goal.at.index_mut-requires c).In-Exit c.requires.so_far.0 c.requires.so_far.1 in
    let lt = in-latest k c.in-Exit.call (goes-here k).0 in
    let len = c.args.self.now.latest.ok.0 in
    omega (arith, lt, len)

pub returns-in-Enter : goal.returns-in-Enter
returns-in-Enter c =
    on_ok_weaker c.push.result (λ opened job so_far. after-enter _ c.in-Enter.call c.in-Enter.ctx c.in-Enter.func c.in-Enter.caller
    (enter (goal.at.returns-in-Enter c).In-Enter job so_far) opened refl refl refl) c.push.ensures

pub returns-in-Ret : goal.returns-in-Ret
returns-in-Ret c = λ job so_far.
    after-ret c.leave.new.self c.in-Ret.call c.in-Ret.to (ret (goal.at.returns-in-Ret c).In-Ret job so_far) c.leave.ensures.stacks c.leave.ensures.counts c.leave.ensures.latest c.leave.ensures.leaves

pub returns-then-eq : goal.returns-then-eq
returns-then-eq c = λ job so_far.
    after-back c.back.new.self c.in-Back.call c.in-Back.whose (back (goal.at.returns-then-eq c).In-Back job so_far) (sym c.eq.ensures ∙ c.if-eq.true) c.back.ensures.stacks c.back.ensures.counts c.back.ensures.places c.back.ensures.leaves

pub returns-else-eq : goal.returns-else-eq
returns-else-eq c = λ job so_far.
    after-back-other c.in-Back.call c.in-Back.whose (back (goal.at.returns-else-eq c).In-Back job so_far) (sym c.eq.ensures ∙ c.if-eq.false)

pub returns-then-eq-2 : goal.returns-then-eq-2
returns-then-eq-2 c = λ job so_far.
    after-exit _ c.in-Exit.call c.in-Exit.whose c.in-Exit.entry (exit (goal.at.returns-then-eq-2 c).In-Exit job so_far) (sym c.eq-in-Exit.ensures ∙ c.if-eq-2.true) refl refl refl refl

pub returns-else-eq-2 : goal.returns-else-eq-2
returns-else-eq-2 c = λ job so_far.
    after-exit-other c.in-Exit.call c.in-Exit.whose c.in-Exit.entry (exit (goal.at.returns-else-eq-2 c).In-Exit job so_far) (sym c.eq-in-Exit.ensures ∙ c.if-eq-2.false)

pub returns-in_default : goal.returns-in_default
returns-in_default c = λ job so_far.
    after-rest c.item.result.now (walking c.item.result.now so_far c.item.ensures refl) (not-moving c.item.result.now c.in_default.not-Enter c.in_default.not-Ret c.in_default.not-Back c.in_default.not-Exit)
