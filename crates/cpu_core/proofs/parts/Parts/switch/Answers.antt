use Rattle.std.proofs.Common.{rules}
use Rattle.cpu_core.proofs.parts.Parts.switch.Goals as goal

pub returns-else-self : goal.returns-else-self
returns-else-self c = search rules
