use Rattle.script_jobs.proofs.Modules.{lanes-name-none}
use Rattle.script_jobs.proofs.scripts_in_lanes_name_no_modules.Goals as goal

pub returns : goal.returns
returns c = lanes-name-none
