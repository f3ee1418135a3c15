use Rattle.history_check.proofs.VerdictLaws.{one-verdict}
use Rattle.history_check.proofs.laws.a_history_has_one_verdict.Goals as goal

pub returns : goal.returns
returns c = λ job items v w a b. one-verdict job items v w a b
