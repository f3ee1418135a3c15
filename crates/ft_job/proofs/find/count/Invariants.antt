use Rattle.std.proofs.Common.{◌≡◌, ◌+◌, length, drop, map}
use Rattle.std.specs.Prelude.{sum_by}
use Rattle.user_specs.specs.Plain.{cpu_of}
use Rattle.ft_job.proofs.find.count.Given as goal

abbrev pub invariant-loop-cpu : goal.invariant-loop-cpu
invariant-loop-cpu l = l.count + sum_by (λ c. length c.tasks) (map cpu_of (drop l.cpu-index l.cpus)) ≡ sum_by (λ c. length c.tasks) (map cpu_of l.cpus)
