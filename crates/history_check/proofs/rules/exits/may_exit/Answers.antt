-- The first visit whose exit this may be is found, if the order lets it come at all.
use Rattle.std.proofs.Common.{sym, ◌∙◌, arith}
use Rattle.history_check.proofs.RuleExits.{MayEnd, each-all, each-more, has-none, has-one, not-in-order}
use Rattle.history_check.proofs.RuleTests.{fails}
use Rattle.history_check.proofs.rules.exits.may_exit.Goals as goal

pub returns-then-not-comes_after : goal.returns-then-not-comes_after
returns-then-not-comes_after c = λ job items k top.
    let t = c.args.top.now in
    not-in-order job items t.call t top c.args.user.0 c.args.entry (sym c.comes_after.ensures ∙ c.if-not-comes_after.true)

pub returns-then-may_end : goal.returns-then-may_end
returns-then-may_end c = λ job items k top.
    let t = c.args.top.now in
    let test = c.loop-at-test.true in
    let n = c.len-at-end.ensures in
    has-one job items t.call t top c.args.user.0 c.args.entry (sym c.comes_after.ensures ∙ c.if-not-comes_after.false) c.loop-at.at c.index.result.now (omega (arith, test, n))
    c.index.ensures ((c.may_end.ensures job items t.call k).0 c.if-may_end.true)

pub loop-at-preserved : goal.loop-at-preserved
loop-at-preserved c = λ job items k.
    let t = c.args.top.now in
    let test = c.loop-at-test.true in
    let n = c.len-at-end.ensures in
    each-more (λ m. MayEnd job items t.call c.args.user.0 c.args.entry m → ⊥) t.visits.items c.loop-at.at c.index.result.now (omega (arith, test, n)) c.index.ensures
    (c.loop-at.invariant job items k) (fails c.may_end.result (c.may_end.ensures job items t.call k) c.if-may_end.false)

pub returns : goal.returns
returns c = λ job items k top.
    let t = c.args.top.now in
    let over = c.loop-at-test.false in
    let n = c.len-at-end.ensures in
    has-none job items t.call t top c.args.user.0 c.args.entry
    (each-all (λ m. MayEnd job items t.call c.args.user.0 c.args.entry m → ⊥) t.visits.items c.loop-at.at (omega (arith, over, n)) (c.loop-at.invariant job items k))
