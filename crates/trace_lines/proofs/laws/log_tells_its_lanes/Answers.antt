use Rattle.trace_lines.proofs.LogTells.{same-lanes}
use Rattle.trace_lines.proofs.laws.log_tells_its_lanes.Goals as goal

pub returns : goal.returns
returns c = λ job other a b x y alike apart apart'. same-lanes job other a b x y alike apart apart'
