-- Each one counts for itself.
use Rattle.std.proofs.Common.{◌<◌, ◌∙◌, length, sym, arith, rules}
use Rattle.ft_hist.specs.Past.{is_at}
use Rattle.history_check.proofs.OpenCallbacks.{counts-all, counts-more, counts-same}
use Rattle.history_check.proofs.callbacks.Callbacks.count.Goals as goal
use Rattle.history_check.proofs.callbacks.Callbacks.count.Goals.{then-is_at, else-is_at}

pub loop-at-init : goal.loop-at-init
loop-at-init c = record { few = omega arith; so_far = omega arith }

pub loop-at-preserved : goal.loop-at-preserved
loop-at-preserved c =
    let t = c.loop-at-test.true in
    let n = c.len-at-end.ensures in
    let lt : c.loop-at.at < length c.args.self.now.open.items = search rules in
    let few = c.loop-at.invariant.few in
    let test = is_at c.args.task.0 c.args.ctx in
    elim c.if-is_at.branch [
      | then-is_at w ↦ record {
        few = (let e = w.count-is in omega (arith, few, e));
        so_far = rw w.count-is (counts-more test c.args.self.now.open.items c.loop-at.at c.loop-at.count c.index.result.now lt c.index.ensures (sym c.is_at.ensures ∙ w.if-is_at.true) c.loop-at.invariant.so_far);
      }
      | else-is_at w ↦ record {
        few = (let e = w.count-is in omega (arith, few, e));
        so_far = rw w.count-is (counts-same test c.args.self.now.open.items c.loop-at.at c.loop-at.count c.index.result.now lt c.index.ensures (sym c.is_at.ensures ∙ w.if-is_at.false) c.loop-at.invariant.so_far);
      }
    ]

pub returns : goal.returns
returns c =
    let t = c.loop-at-test.false in
    let n = c.len-at-end.ensures in
    counts-all (is_at c.args.task.0 c.args.ctx) c.args.self.now.open.items c.loop-at.at c.loop-at.count (omega (arith, t, n)) c.loop-at.invariant.so_far
