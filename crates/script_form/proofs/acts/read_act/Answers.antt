use Rattle.std.proofs.Common.{rules}
use Rattle.script_form.proofs.acts.read_act.Goals as goal

pub returns-in-iret : goal.returns-in-iret
returns-in-iret c = search rules
