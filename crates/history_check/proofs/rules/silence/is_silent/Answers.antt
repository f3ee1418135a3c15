-- A user that was neither visited nor off tells against it, and if there is none it holds.
use Rattle.std.proofs.Common.{◌∙◌, sym, arith, inl, inr}
use Rattle.history_check.proofs.RuleCalls.{from-is, func-is, has_visit, visited-is}
use Rattle.history_check.proofs.SilentLaws.{not-silent, silent-more, silent}
use Rattle.history_check.proofs.rules.silence.is_silent.Goals as goal
use Rattle.history_check.proofs.rules.silence.is_silent.Goals.{else-not-has_visited-via-then-not-has_visited+else-not-was_off, else-not-has_visited-via-else-not-has_visited}

pub returns-then-not-was_off : goal.returns-then-not-was_off
returns-then-not-was_off c = λ job items k top.
    let t = c.args.top.now in
    let lt = c.loop-u-test.true in
    let all = c.users-u-end.ensures job k.desks in
    not-silent job (has_visit t) t.from c.args.past.now.begun t.func.0 items t.call (from-is job items t.call t top) k.begun' (func-is job items t.call t top) (visited-is job items t.call t top)
    c.loop-u.u (omega (arith, lt, all)) (sym c.has_visited.ensures ∙ c.if-not-has_visited.true) c.was_off.result (c.was_off.ensures job k.desks) c.if-not-was_off.true

pub loop-u-preserved : goal.loop-u-preserved
loop-u-preserved c = λ job are.
    let t = c.args.top.now in
    silent-more job (has_visit t) t.from c.args.past.now.begun t.func.0 c.loop-u.u (c.loop-u.invariant job are)
    (elim c.else-not-has_visited.branch [
      | else-not-has_visited-via-then-not-has_visited+else-not-was_off w ↦ inr ((w.was_off.ensures job are).0 w.if-not-was_off.false)
      | else-not-has_visited-via-else-not-has_visited w ↦ inl (sym c.has_visited.ensures ∙ w.if-not-has_visited.false)
    ])

pub returns : goal.returns
returns c = λ job items k top.
    let t = c.args.top.now in
    let over = c.loop-u-test.false in
    let all = c.users-u-end.ensures job k.desks in
    silent job (has_visit t) t.from c.args.past.now.begun t.func.0 items t.call (from-is job items t.call t top) k.begun' (func-is job items t.call t top) (visited-is job items t.call t top)
    c.loop-u.u (omega (arith, over, all)) (c.loop-u.invariant job k.desks)
