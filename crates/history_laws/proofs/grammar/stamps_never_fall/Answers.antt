use Rattle.history_laws.proofs.grammar.stamps_never_fall.Goals as goal
use Rattle.history_laws.proofs.Stamps.{never-fall}

pub returns : goal.returns
returns c = λ t past. never-fall t past
