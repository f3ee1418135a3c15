use Rattle.std.proofs.Common.{rules}
use Rattle.script_form.proofs.control.read_command.Goals as goal

pub returns-in-notrace : goal.returns-in-notrace
returns-in-notrace c = search rules
