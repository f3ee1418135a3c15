use Rattle.std.proofs.Common.{rules}
use Rattle.std.proofs.lemmas.Fn.{filter_same}
use Rattle.told_items.proofs.told.Told.settle.Goals as goal

pub returns-clause-exits : goal.returns-clause-exits
returns-clause-exits c = filter_same _ _ _ (λ x b f' k. search rules) _ _ c.retain.ensures.filtered
