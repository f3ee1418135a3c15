-- How the program keeps the tasks of a job.
use Rattle.std.specs.Prelude.{ℕ, List, length, map}
use Rattle.std.specs.List.{range_with_len}
use Rattle.ft_base.specs.Job.{Job}
use Rattle.trace_views.specs.declared.named.TaskName.{TaskName}
use Rattle.trace_views.specs.Words.{pid_at, cpu_at}

-- the pid and the CPU of a task
abbrev pub name_at : Job → ℕ → TaskName
name_at job t = record { pid = pid_at job t; cpu = cpu_at job t }

-- those of each task, by number
abbrev pub names_of : Job → List TaskName
names_of job = map (name_at job) (range_with_len 0 (length job.tasks))
