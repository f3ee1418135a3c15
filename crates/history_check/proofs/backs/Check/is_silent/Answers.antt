-- A user that was neither visited nor off tells against it, and if there is none it holds.
use Rattle.std.proofs.Common.{◌∙◌, sym, arith, inl, inr}
use Rattle.history_check.specs.CallbackCheck.{is_visited}
use Rattle.history_check.proofs.BacksLaws.{from-is, func-is}
use Rattle.history_check.proofs.SilentLaws.{not-silent, silent-more, silent}
use Rattle.history_check.proofs.backs.Check.is_silent.Goals as goal
use Rattle.history_check.proofs.backs.Check.is_silent.Goals.{else-not-was_visited-via-then-not-was_visited+else-not-was_off, else-not-was_visited-via-else-not-was_visited}

pub returns-then-not-was_off : goal.returns-then-not-was_off
returns-then-not-was_off c = λ job past k.
    let self = c.args.self.now in
    let e = c.entry-entry.result in
    let lt = c.loop-u-test.true in
    let all = c.users-u-end.ensures job k.desks in
    not-silent job (is_visited self c.args.call) e.from self.begun e.func.0 past c.args.call (from-is job past self k c.args.call e c.entry-entry.ensures) k.begun' (func-is job past self k c.args.call e c.entry-entry.ensures) (k.calls.visited c.args.call)
    c.loop-u.u (omega (arith, lt, all)) (sym c.was_visited.ensures ∙ c.if-not-was_visited.true) c.was_off.result (c.was_off.ensures job k.desks) c.if-not-was_off.true

pub loop-u-preserved : goal.loop-u-preserved
loop-u-preserved c = λ job are.
    let self = c.args.self.now in
    let e = c.entry-entry.result in
    silent-more job (is_visited self c.args.call) e.from self.begun e.func.0 c.loop-u.u (c.loop-u.invariant job are)
    (elim c.else-not-was_visited.branch [
      | else-not-was_visited-via-then-not-was_visited+else-not-was_off w ↦ inr ((w.was_off.ensures job are).0 w.if-not-was_off.false)
      | else-not-was_visited-via-else-not-was_visited w ↦ inl (sym c.was_visited.ensures ∙ w.if-not-was_visited.false)
    ])

pub returns : goal.returns
returns c = λ job past k.
    let self = c.args.self.now in
    let e = c.entry-entry.result in
    let over = c.loop-u-test.false in
    let all = c.users-u-end.ensures job k.desks in
    silent job (is_visited self c.args.call) e.from self.begun e.func.0 past c.args.call (from-is job past self k c.args.call e c.entry-entry.ensures) k.begun' (func-is job past self k c.args.call e c.entry-entry.ensures) (k.calls.visited c.args.call)
    c.loop-u.u (omega (arith, over, all)) (c.loop-u.invariant job k.desks)
