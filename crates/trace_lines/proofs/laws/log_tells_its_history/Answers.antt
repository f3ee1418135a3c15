use Rattle.trace_lines.proofs.LogTells.{same-text}
use Rattle.trace_lines.proofs.laws.log_tells_its_history.Goals as goal

pub returns : goal.returns
returns c = λ job a b x y apart. same-text job apart a b x y
