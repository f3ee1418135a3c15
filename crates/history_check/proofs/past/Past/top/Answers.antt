-- The task of an item is one of the job, and its first call is the top one.
use Rattle.std.proofs.Common.{◌∙◌, sym, ap, subst}
use Rattle.std.specs.Prelude.{option_map}
use Rattle.history_check.specs.JudgePast.{IsTopOf}
use Rattle.history_check.proofs.FollowPast.{no-task, top-of-task}
use Rattle.history_check.proofs.past.Past.top.Goals as goal

pub returns-in_err-task : goal.returns-in_err-task
returns-in_err-task c = λ job past now k goes.
    let of = sym c.call.ensures ∙ c.in_ok-call.was in
    let none = ap (option_map (λ x. x.now)) (sym c.in_err-task.was) ∙ c.task.ensures in
    absurd (no-task job past now c.args.self.now k c.args.item.now goes c.in_ok-call.field-0 of (sym none))

pub returns : goal.returns
returns c = λ job past now k goes.
    let of = sym c.call.ensures ∙ c.in_ok-call.was in
    let some = ap (option_map (λ x. x.now)) (sym c.in_ok-task.was) ∙ c.task.ensures in
    subst (λ o. IsTopOf job past c.args.item.now o) (sym c.top.ensures)
    (top-of-task job past now c.args.self.now k c.args.item.now goes c.in_ok-call.field-0 of c.in_ok-task.field-0.now (sym some))
