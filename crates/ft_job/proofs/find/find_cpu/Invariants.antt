use Rattle.std.proofs.Common.{◌≡◌, drop, map}
use Rattle.user_specs.specs.Plain.{cpu_of}
use Rattle.ft_job.specs.Parts.{found_in}
use Rattle.ft_job.proofs.find.find_cpu.Given as goal

abbrev pub invariant-loop-number : goal.invariant-loop-number
invariant-loop-number l = found_in l.task.0 l.number (map cpu_of (drop l.number l.cpus)) ≡ found_in l.task.0 0 (map cpu_of l.cpus)
