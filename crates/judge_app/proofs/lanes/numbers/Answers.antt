use Rattle.std.proofs.Common.{rules, refl, arith}
use Rattle.std.proofs.lemmas.Iterator.{YieldsList-from_range, items_from_collect}
use Rattle.judge_app.proofs.lanes.numbers.Goals as goal

pub returns : goal.returns
returns c =
    let all = items_from_collect c.collect.result c.collect.ensures.ran (YieldsList-from_range 0 c.args.count c.args.count refl (omega arith)) in
    search rules
