use Rattle.script_waits.proofs.Stuck.{task-held, control-held}
use Rattle.script_waits.proofs.ending.whoever_is_left_waits.Goals as goal

pub returns : goal.returns
returns c = record { task = task-held; control = control-held }
