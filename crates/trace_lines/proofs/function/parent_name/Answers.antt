use Rattle.std.proofs.Common.{rules}
use Rattle.trace_lines.proofs.function.parent_name.Goals as goal

pub returns-in-Some : goal.returns-in-Some
returns-in-Some g c = search rules
