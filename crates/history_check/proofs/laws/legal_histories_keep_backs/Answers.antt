use Rattle.history_check.proofs.PastLaws.{legal-keeps}
use Rattle.history_check.proofs.laws.legal_histories_keep_backs.Goals as goal

pub returns : goal.returns
returns c = λ job items legal. legal-keeps job items legal
