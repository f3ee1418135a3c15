use Rattle.std.proofs.Common.{ℕ, ◌<◌, ◌^◌, nat_eq}
use Rattle.std.specs.HashMap.{get}
use Rattle.trace_views.specs.Words.{pid_at}
use Rattle.ft_base.specs.declared.number.TaskNo.{TaskNo}
use Rattle.log_reader.specs.Lookups.{IsFound}
use Rattle.log_reader.proofs.numbers.tasks_by_pid.Given as goal

-- those below the number are found, and their pids have 32 bits
abbrev pub invariant-loop-n : goal.invariant-loop-n
invariant-loop-n g l =
    ((pid : ℕ) → IsFound (λ (t : TaskNo). t.0) l.n (pid_at (g.N.Named.job l.names)) pid (get nat_eq l.found pid))
    × ((t : ℕ) → t < l.n → pid_at (g.N.Named.job l.names) t < 2 ^ 32)
