use Rattle.std.proofs.Common.{rules}
use Rattle.task_core.proofs.task.Task.callback_ended.Goals as goal

pub returns-clause-task : goal.returns-clause-task
returns-clause-task c = search rules
