-- The first visit that holds a frame tells, and if there is none it holds none.
use Rattle.std.proofs.Common.{◌<◌, ◌∙◌, length, refl, sym, arith, rules}
use Rattle.history_check.specs.TaskCalls.{keeps_frame}
use Rattle.history_check.proofs.OpenHolds.{fails-here, holds-is, none-passes, passes-here}
use Rattle.history_check.proofs.open_call.OpenCall.holds.Goals as goal

pub loop-at-init : goal.loop-at-init
loop-at-init c = λ job users. refl

pub returns-then-keeps_frame : goal.returns-then-keeps_frame
returns-then-keeps_frame c = λ job past users k.
    let self = c.args.self.now in
    let t = c.loop-at-test.true in
    let n = c.len-at-end.ensures in
    let lt : c.loop-at.at < length self.visits.items = search rules in
    sym (passes-here (keeps_frame job self.dispatched) self.visits.items c.loop-at.at c.index-visit.result.now lt c.index-visit.ensures (sym (c.keeps_frame.ensures job users) ∙ c.if-keeps_frame.true) (c.loop-at.invariant job users))
    ∙ holds-is job past self k

pub loop-at-preserved : goal.loop-at-preserved
loop-at-preserved c = λ job users.
    let self = c.args.self.now in
    let t = c.loop-at-test.true in
    let n = c.len-at-end.ensures in
    let lt : c.loop-at.at < length self.visits.items = search rules in
    fails-here (keeps_frame job self.dispatched) self.visits.items c.loop-at.at c.index-visit.result.now lt c.index-visit.ensures (sym (c.keeps_frame.ensures job users) ∙ c.if-keeps_frame.false) (c.loop-at.invariant job users)

pub returns : goal.returns
returns c = λ job past users k.
    let self = c.args.self.now in
    let t = c.loop-at-test.false in
    let n = c.len-at-end.ensures in
    sym (none-passes (keeps_frame job self.dispatched) self.visits.items c.loop-at.at (omega (arith, t, n)) (c.loop-at.invariant job users)) ∙ holds-is job past self k
