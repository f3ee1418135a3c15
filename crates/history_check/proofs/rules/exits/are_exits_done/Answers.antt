-- A visit that lacks its exit without a reason tells against it.
use Rattle.std.proofs.Common.{arith}
use Rattle.history_check.proofs.RuleExits.{IsSettled, all-settled, each-all, each-more, not-settled}
use Rattle.history_check.proofs.RuleTests.{fails}
use Rattle.history_check.proofs.rules.exits.are_exits_done.Goals as goal

pub returns-then-not-is_settled : goal.returns-then-not-is_settled
returns-then-not-is_settled c = λ job items k top.
    let t = c.args.top.now in
    let test = c.loop-at-test.true in
    let n = c.len-at-end.ensures in
    not-settled job items t.call t top c.loop-at.at c.index.result.now (omega (arith, test, n)) c.index.ensures
    (fails c.is_settled.result (c.is_settled.ensures job items k) c.if-not-is_settled.true)

pub loop-at-preserved : goal.loop-at-preserved
loop-at-preserved c = λ job items k.
    let t = c.args.top.now in
    let test = c.loop-at-test.true in
    let n = c.len-at-end.ensures in
    each-more (λ m. IsSettled job items t.call t m) t.visits.items c.loop-at.at c.index.result.now (omega (arith, test, n)) c.index.ensures
    (c.loop-at.invariant job items k) ((c.is_settled.ensures job items k).0 c.if-not-is_settled.false)

pub returns : goal.returns
returns c = λ job items k top.
    let t = c.args.top.now in
    let over = c.loop-at-test.false in
    let n = c.len-at-end.ensures in
    all-settled job items t.call t top (each-all (λ m. IsSettled job items t.call t m) t.visits.items c.loop-at.at (omega (arith, over, n)) (c.loop-at.invariant job items k))
