use Rattle.std.proofs.Common.{◌≡◌, ◌++◌, string_bytes}
use Rattle.ft_schedule.specs.Bulk.{several, task_part}
use Rattle.ft_schedule.proofs.bulk.push_tasks.Given as goal

abbrev pub invariant-loop-task : goal.invariant-loop-task
invariant-loop-task l = record {
  text : string_bytes l.text ≡ string_bytes l.fn.text ++ (several task_part l.task l.fn.draws.state).text;
  state : l.draws.state ≡ (several task_part l.task l.fn.draws.state).state;
}
