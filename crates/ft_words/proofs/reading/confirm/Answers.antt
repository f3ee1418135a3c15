use Rattle.std.proofs.Common.{rules}
use Rattle.ft_words.proofs.reading.confirm.Goals as goal

pub returns-in-Ok-false-clause-spelt : goal.returns-in-Ok-false-clause-spelt
returns-in-Ok-false-clause-spelt c = search rules
