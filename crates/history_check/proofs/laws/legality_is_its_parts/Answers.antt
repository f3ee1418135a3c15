use Rattle.history_check.proofs.VerdictLaws.{all-parts, of-parts}
use Rattle.history_check.proofs.laws.legality_is_its_parts.Goals as goal

pub returns : goal.returns
returns c = λ job past item. (all-parts job past item, of-parts job past item)
