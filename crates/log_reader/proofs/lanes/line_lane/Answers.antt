use Rattle.std.proofs.Common.{ap, sym, ◌∙◌}
use Rattle.log_reader.specs.Lanes.{lane_in}
use Rattle.log_reader.proofs.LanesNamed.{named-bytes, named-text}
use Rattle.log_reader.proofs.lanes.line_lane.Goals as goal

pub returns-in-Ok : goal.returns-in-Ok
returns-in-Ok c = c.read_lane.ensures ∙ ap (λ t. lane_in t) c.in-Ok.ensures.cases.0 ∙ sym (named-text c.args.line.now c.in-Ok.ensures.cases.1)

pub returns-in-Err : goal.returns-in-Err
returns-in-Err c = sym (named-bytes c.args.line.now c.in-Err.ensures.cases.0)
