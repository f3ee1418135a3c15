use Rattle.std.proofs.Common.{rules}
use Rattle.task_core.proofs.task.Task.exit_state.Goals as goal

pub returns-then-stands : goal.returns-then-stands
returns-then-stands c = search rules
