-- A task that has started is pushed.
use Rattle.std.proofs.Common.{rules, ◌≡◌, ◌+◌, ◌++◌, [], ◌∷◌, take, sym, ap, ◌∙◌, arith}
use Rattle.std.proofs.lemmas.List.{take_more}
use Rattle.user_specs.specs.declared.plan.TaskPlan.{TaskPlan}
use Rattle.cpu_core.specs.Turns.{AreStarted}
use Rattle.cpu_core.proofs.TurnLoops.{started-push}
use Rattle.cpu_core.proofs.tasks.Tasks.new.Goals as goal

pub loop-plan-preserved : goal.loop-plan-preserved
loop-plan-preserved c =
    let i = c.loop-plan.plan-index in
    let plans = c.args.plans.now in
    let plan = c.plan-item.result in
    let more : take (i + 1) plans ≡ take i plans ++ plan ∷ [] =
    take_more plans i plan (omega arith) ∙ ap (λ (p : TaskPlan). take i plans ++ p ∷ []) (sym c.plan-item.is) in
    let pushed : AreStarted c.args.frames c.args.levels (take i plans ++ plan ∷ []) (c.loop-plan.tasks.items ++ c.in_ok-new.field-0 ∷ []) =
    started-push c.args.frames c.args.levels _ _ plan c.in_ok-new.field-0 c.loop-plan.invariant.started (record { start = c.in_ok-new.ensures.start; room = c.in_ok-new.ensures.room }) in
    record { started = rw (more, c.push_reserved.ensures.items) pushed; count = search rules; room = search rules }
