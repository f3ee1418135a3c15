use Rattle.std.proofs.Common.{◌≡◌, drop, map}
use Rattle.user_specs.specs.Plain.{cpu_of}
use Rattle.ft_job.specs.Parts.{found_in}
use Rattle.ft_job.proofs.find.find.Given as goal

abbrev pub invariant-loop-cpu : goal.invariant-loop-cpu
invariant-loop-cpu l = found_in l.task.0 l.cpu-index (map cpu_of (drop l.cpu-index l.cpus)) ≡ found_in l.task.0 0 (map cpu_of l.cpus)
