use Rattle.std.proofs.Common.{◌∙◌, sym, false, arith}
use Rattle.module_coverage.proofs.Away.{away-found, past-more, rest-more}
use Rattle.module_coverage.proofs.history.first_away.Goals as goal

pub returns-then-is_away : goal.returns-then-is_away
returns-then-is_away c =
    let inv = c.loop-change.invariant in
    away-found c.args.history.now c.loop-change.change-index (record { «module» = 0; load = false; at = 0 }) c.args.from c.loop-change.since c.loop-change.loaded c.loop-change-test.true inv.up inv.past inv.rest
    (sym c.is_away.ensures ∙ c.if-is_away.true)

pub loop-change-preserved : goal.loop-change-preserved
loop-change-preserved c =
    let inv = c.loop-change.invariant in
    let stays = sym c.is_away.ensures ∙ c.if-is_away.false in
    record {
      up = omega (arith, inv.up, c.max-since.ensures);
      past = past-more c.args.history.now c.loop-change.change-index (record { «module» = 0; load = false; at = 0 }) c.args.from c.loop-change.since c.loop-change.loaded c.loop-change-test.true inv.up inv.past inv.rest
          stays c.max-since.result c.max-since.ensures;
      rest = rest-more c.args.history.now c.loop-change.change-index (record { «module» = 0; load = false; at = 0 }) c.args.from c.loop-change.since c.loop-change.loaded c.loop-change-test.true inv.up inv.past inv.rest
          stays c.max-since.result c.max-since.ensures;
    }
