use Rattle.std.proofs.Common.{◌≡◌, ◌++◌, string_bytes}
use Rattle.ft_schedule.specs.Bulk.{several, cpu_part}
use Rattle.ft_schedule.proofs.bulk.push_cpus.Given as goal

abbrev pub invariant-loop-cpu : goal.invariant-loop-cpu
invariant-loop-cpu l = record {
  text : string_bytes l.text ≡ string_bytes l.fn.text ++ (several cpu_part l.cpu l.fn.draws.state).text;
  state : l.draws.state ≡ (several cpu_part l.cpu l.fn.draws.state).state;
}
