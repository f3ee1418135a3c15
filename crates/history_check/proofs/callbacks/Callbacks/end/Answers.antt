-- The callback at this place is the first of its call and user, and is taken out.
use Rattle.std.proofs.Common.{◌<◌, ◌∙◌, length, map, refl, sym, ap, arith, rules}
use Rattle.history_check.specs.CallbackList.{callback_of}
use Rattle.history_check.proofs.OpenCallbacks.{at-some, ends-here, ends-later, none-ends}
use Rattle.history_check.proofs.callbacks.Callbacks.end.Goals as goal

pub returns-then-is_of : goal.returns-then-is_of
returns-then-is_of c =
    let was = c.loop-at.invariant.same in
    let t = c.loop-at-test.true in
    let n = c.len-at-end.ensures in
    let lt : c.loop-at.at < length c.loop-at.self.open.items = search rules in
    ap (map callback_of) (at-some c.remove.result (c.remove.ensures.variant.1 (rw was (omega (arith, t, n)))) c.remove.ensures.items)
    ∙ ends-here c.args.call c.args.user.0 c.loop-at.self.open.items c.loop-at.at c.index.result.now lt c.index.ensures (sym c.is_of.ensures ∙ c.if-is_of.true) c.loop-at.invariant.before
    ∙ rw was refl

pub loop-at-preserved : goal.loop-at-preserved
loop-at-preserved c =
    let t = c.loop-at-test.true in
    let n = c.len-at-end.ensures in
    let lt : c.loop-at.at < length c.loop-at.self.open.items = search rules in
    record {
      same = c.loop-at.invariant.same;
      before = ends-later c.args.call c.args.user.0 c.loop-at.self.open.items c.loop-at.at c.index.result.now lt c.index.ensures (sym c.is_of.ensures ∙ c.if-is_of.false) c.loop-at.invariant.before;
    }

pub returns : goal.returns
returns c =
    let was = c.loop-at.invariant.same in
    let t = c.loop-at-test.false in
    let n = c.len-at-end.ensures in
    none-ends c.args.call c.args.user.0 c.loop-at.self.open.items c.loop-at.at (rw was (omega (arith, t, n))) c.loop-at.invariant.before ∙ rw was refl
