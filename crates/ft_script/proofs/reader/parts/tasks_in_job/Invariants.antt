use Rattle.std.proofs.Common.{◌≡◌, ◌++◌, map, drop}
use Rattle.script_waits.specs.Tasks.{lined_task}
use Rattle.ft_script.specs.Script.{task_in_job}
use Rattle.ft_script.proofs.reader.parts.tasks_in_job.Given as goal

abbrev pub invariant-loop-task : goal.invariant-loop-task
invariant-loop-task l = map lined_task l.those.items ++ map (task_in_job l.ends) (map lined_task (drop l.task-index l.tasks)) ≡ map (task_in_job l.ends) (map lined_task l.tasks)
