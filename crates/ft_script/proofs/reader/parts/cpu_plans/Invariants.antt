use Rattle.std.proofs.Common.{◌≡◌, ◌++◌, map, drop}
use Rattle.user_specs.specs.Plain.{cpu_of}
use Rattle.ft_job.specs.Parts.{cpus_with}
use Rattle.script_waits.specs.Tasks.{lined_task}
use Rattle.ft_script.specs.Script.{task_of}
use Rattle.ft_script.proofs.reader.parts.cpu_plans.Given as goal

abbrev pub invariant-loop-c : goal.invariant-loop-c
invariant-loop-c l = map cpu_of l.cpus.items ++ cpus_with l.c (drop l.c l.quanta) 0 (map task_of (map lined_task l.fn.tasks)) ≡ cpus_with 0 l.quanta 0 (map task_of (map lined_task l.fn.tasks))
