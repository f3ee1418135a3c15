use Rattle.std.proofs.Common.{arith}
use Rattle.std.proofs.lemmas.Grind.{common_steps}
use Rattle.std.proofs.lemmas.List.{take_rest}
use Rattle.glob_filter.proofs.Texts.{drop_one_more}
use Rattle.glob_filter.proofs.parse.read_class.Goals as goal

pub returns-in_ok-ranges-in-Some-clause-rest : goal.returns-in_ok-ranges-in-Some-clause-rest
returns-in_ok-ranges-in-Some-clause-rest c = grind (arith, common_steps, take_rest, drop_one_more)
