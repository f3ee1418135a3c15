use Rattle.std.proofs.Common.{◌≡◌, drop, map}
use Rattle.user_specs.specs.Plain.{task_of}
use Rattle.ft_job.specs.Parts.{found_on}
use Rattle.ft_job.proofs.find.find_on.Given as goal

abbrev pub invariant-loop-plan : goal.invariant-loop-plan
invariant-loop-plan l = found_on l.task.0 0 (map task_of (drop l.plan-index l.tasks)) ≡ found_on l.task.0 0 (map task_of l.tasks)
