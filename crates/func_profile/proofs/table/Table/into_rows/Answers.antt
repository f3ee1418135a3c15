-- The test of `retain` is that a row has a hit.
use Rattle.std.proofs.Common.{rules}
use Rattle.std.proofs.lemmas.Fn.{filter_same}
use Rattle.func_profile.specs.Rows.{has_hit}
use Rattle.func_profile.proofs.table.Table.into_rows.Goals as goal

pub returns : goal.returns
returns c = filter_same _ has_hit _ (λ x b f' k. search rules) _ _ c.retain.ensures.filtered
