-- The visits one by one say what the rule says of all.
use Rattle.std.proofs.Common.{false, sym, ap, ◌∙◌, arith}
use Rattle.ft_hist.specs.Past.{visits}
use Rattle.history_check.proofs.RuleFetches.{run-over, run-second, run-told, runs_by}
use Rattle.history_check.proofs.rules.fetches.is_replaced_by.Goals as goal

pub returns-then-is_some : goal.returns-then-is_some
returns-then-is_some c = λ job items k top.
    let t = c.args.top.now in
    let test = c.loop-at-test.true in
    let n = c.len-at-end.ensures in
    run-told job t.call t.func.0 c.args.runs.0 t.visits.items (visits job t.call items) top.is.visits' false
    (sym (c.loop-at.invariant job items k
    ∙ run-second job t.func.0 c.args.runs.0 t.visits.items c.loop-at.at c.index.result.now c.loop-at.found (omega (arith, test, n)) c.index.ensures c.in-Some.func
    (sym (c.replaced_by.ensures job items k) ∙ c.in-Some.is) (sym c.is_some.ensures ∙ c.if-is_some.true)))

pub returns-in-Some-found : goal.returns-in-Some-found
returns-in-Some-found c = λ job items k top.
    let t = c.args.top.now in
    let over = c.loop-at-test.false in
    let n = c.len-at-end.ensures in
    let end = run-over job t.func.0 c.args.runs.0 t.visits.items c.loop-at.at c.loop-at.found (omega (arith, over, n)) in
    run-told job t.call t.func.0 c.args.runs.0 t.visits.items (visits job t.call items) top.is.visits' c.eq.result
    (c.eq.ensures ∙ sym (c.loop-at.invariant job items k ∙ end ∙ ap (λ o. runs_by t.func.0 c.args.runs.0 o) c.in-Some-found.is))

pub returns-in-None : goal.returns-in-None
returns-in-None c = λ job items k top.
    let t = c.args.top.now in
    let over = c.loop-at-test.false in
    let n = c.len-at-end.ensures in
    let end = run-over job t.func.0 c.args.runs.0 t.visits.items c.loop-at.at c.loop-at.found (omega (arith, over, n)) in
    run-told job t.call t.func.0 c.args.runs.0 t.visits.items (visits job t.call items) top.is.visits' c.eq-in-None.result
    (c.eq-in-None.ensures ∙ sym (c.loop-at.invariant job items k ∙ end ∙ ap (λ o. runs_by t.func.0 c.args.runs.0 o) c.in-None.is))
