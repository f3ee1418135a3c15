use Rattle.std.proofs.Common.{◌≡◌, ◌++◌, map, drop}
use Rattle.user_specs.specs.Plain.{task_of as plan_seen}
use Rattle.ft_job.specs.Parts.{tasks_on}
use Rattle.script_waits.specs.Tasks.{lined_task}
use Rattle.ft_script.specs.Script.{task_of}
use Rattle.ft_script.proofs.reader.parts.task_plans.Given as goal

abbrev pub invariant-loop-i : goal.invariant-loop-i
invariant-loop-i l = map plan_seen l.plans.items ++ tasks_on l.cpu l.i (map task_of (map lined_task (drop l.i l.tasks))) ≡ tasks_on l.cpu 0 (map task_of (map lined_task l.tasks))
