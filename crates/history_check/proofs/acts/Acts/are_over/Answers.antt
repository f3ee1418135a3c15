use Rattle.std.proofs.Common.{rules, tests}
use Rattle.std.proofs.lemmas.Iterator.{YieldsList-from_slice}
use Rattle.std.proofs.lemmas.Iterator.Search.{all_from_yields_List}
use Rattle.history_check.specs.PlainRuns.{is_silent}
use Rattle.history_check.proofs.RunEnds.{over-is}
use Rattle.history_check.proofs.acts.Acts.are_over.Goals as goal

pub returns : goal.returns
returns c =
    let acts = c.args.self.now.rest.now in
    over-is c.args.returned acts c.all.result
    (all_from_yields_List (is_silent c.args.returned) _ _ c.all.result c.all.ensures.ran (YieldsList-from_slice acts cc) (λ x b q k. search (rules, tests)))
