-- The first call counts for itself, and knows how many of those below it do.
use Rattle.std.proofs.Common.{◌∙◌, add-one, false, sym, true}
use Rattle.history_check.proofs.OpenStacks.{counted, counted-none}
use Rattle.history_check.proofs.task_past.TaskPast.held.Goals as goal

pub returns-in_default : goal.returns-in_default
returns-in_default c = λ job past t users k.
    let none = rw c.in_default.is at c.top.ensures in
    sym (counted-none job past c.args.self.now.calls.items (sym none))

pub returns-then-holds : goal.returns-then-holds
returns-then-holds c = λ job past t users k.
    let first = rw c.in-Some.is at c.top.ensures in
    add-one c.in-Some.top.now.held
    ∙ sym (counted job past t c.args.self.now.calls.items k c.in-Some.top.now (sym first) true (λ o. sym c.if-holds.true ∙ c.holds.ensures job past users o))

pub returns : goal.returns
returns c = λ job past t users k.
    let first = rw c.in-Some.is at c.top.ensures in
    sym (counted job past t c.args.self.now.calls.items k c.in-Some.top.now (sym first) false (λ o. sym c.if-holds.false ∙ c.holds.ensures job past users o))
