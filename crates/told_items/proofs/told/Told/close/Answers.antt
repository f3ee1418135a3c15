use Rattle.std.proofs.Common.{rules}
use Rattle.std.proofs.lemmas.Fn.{filter_same}
use Rattle.told_items.proofs.told.Told.close.Goals as goal

pub returns-clause-calls : goal.returns-clause-calls
returns-clause-calls c = filter_same _ _ _ (λ x b f' k. search rules) _ _ c.retain.ensures.filtered

pub returns-clause-exits : goal.returns-clause-exits
returns-clause-exits c = filter_same _ _ _ (λ x b f' k. search rules) _ _ c.retain-2.ensures.filtered
