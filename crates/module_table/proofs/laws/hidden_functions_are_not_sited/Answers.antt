use Rattle.module_table.proofs.OpenedLaws.{always-hides}
use Rattle.module_table.proofs.laws.hidden_functions_are_not_sited.Goals as goal

pub returns : goal.returns
returns c = always-hides
