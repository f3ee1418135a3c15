use Rattle.std.proofs.Common.{◌≡◌, ◌∙◌, Some, None, length, refl, rules, sym, arith, if◌then◌else◌}
use Rattle.std.specs.Prelude.{IsTrue, ◌↔◌}
use Rattle.std.proofs.lemmas.Option.{slice_get_past, slice_get_read}
use Rattle.ft_hist.specs.Plain.{after_item}
use Rattle.ft_hist.specs.Rules.{KeepsPlainRun}
use Rattle.history_check.proofs.FollowPast.{no-task}
use Rattle.history_check.proofs.JudgeRuns.{few-calls, free-keeps, free-kept, ok-more, run-kept, run-told}
use Rattle.history_check.proofs.past.Past.goes_on.Goals as goal

pub take-requires : goal.take-requires
take-requires c =
    let (job, past, is, room) = c.requires in
    let tasks = c.args.self.now.tasks.items in
    let i = c.in-Some.call.task.0 in
    let x = c.in-Some-get_mut.task.now in
    let item = c.in-Some-get_mut.ensures.item in
    let at = slice_get_read tasks (length tasks) i x refl item.3.0 item.1 in
    let few = few-calls job i past x.run ((is.each i x at).run) in
    omega (arith, few, room)

pub returns-in_default-clause-told : goal.returns-in_default-clause-told
returns-in_default-clause-told c = λ job past is.
    let e = sym c.call.ensures ∙ c.in_default.is in
    (λ h. free-keeps job past c.args.self.now is c.args.item.now e, λ keeps. refl)

pub returns-in_default-clause-kept : goal.returns-in_default-clause-kept
returns-in_default-clause-kept c = λ job past is h.
    let e = sym c.call.ensures ∙ c.in_default.is in
    free-kept job past c.args.self.now is c.args.item.now e

pub returns-in-Some-get_mut-clause-told : goal.returns-in-Some-get_mut-clause-told
returns-in-Some-get_mut-clause-told c = λ job past is.
    let self = c.args.self.now in
    let tasks = self.tasks.items in
    let call = c.in-Some.call in
    let of = sym c.call.ensures ∙ c.in-Some.is in
    let x = c.in-Some-get_mut.task.now in
    let item = c.in-Some-get_mut.ensures.item in
    let at = slice_get_read tasks (length tasks) call.task.0 x refl item.3.0 item.1 in
    let new = c.take.new.self in
    ok-more (λ b. after_item job self.done x.run c.args.item.now ≡ (if b then Some new else None)) (λ b. IsTrue b ↔ KeepsPlainRun job past c.args.item.now)
    c.take.result (c.take.ensures job (sym is.specs))
    (λ b so. run-told job past self is c.args.item.now call of x at b new so)

pub returns-in-Some-get_mut-clause-kept : goal.returns-in-Some-get_mut-clause-kept
returns-in-Some-get_mut-clause-kept c = λ job past is.
    let self = c.args.self.now in
    let tasks = self.tasks.items in
    let call = c.in-Some.call in
    let of = sym c.call.ensures ∙ c.in-Some.is in
    let x = c.in-Some-get_mut.task.now in
    let item = c.in-Some-get_mut.ensures.item in
    let at = slice_get_read tasks (length tasks) call.task.0 x refl item.3.0 item.1 in
    let new = c.take.new.self in
    ok-more (λ b. after_item job self.done x.run c.args.item.now ≡ (if b then Some new else None)) _
    c.take.result (c.take.ensures job (sym is.specs))
    (λ b so passes. run-kept job past self is c.args.item.now call of x at b new so _ (search rules) passes)

pub returns-in-None-clause-told : goal.returns-in-None-clause-told
returns-in-None-clause-told c = λ job past is.
    let self = c.args.self.now in
    let call = c.in-Some.call in
    let of = sym c.call.ensures ∙ c.in-Some.is in
    let none = slice_get_past self.tasks.items call.task.0 c.in-None.ensures.item.3 in
    (λ h. absurd cc, λ keeps. absurd (no-task job past past self is c.args.item.now keeps call of none))
