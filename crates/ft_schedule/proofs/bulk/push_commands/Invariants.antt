use Rattle.std.proofs.Common.{◌≡◌, ◌++◌, string_bytes}
use Rattle.ft_schedule.specs.Bulk.{several, command_part}
use Rattle.ft_schedule.proofs.bulk.push_commands.Given as goal

abbrev pub invariant-loop-command : goal.invariant-loop-command
invariant-loop-command l = record {
  text : string_bytes l.text ≡ string_bytes l.fn.text ++ (several (λ _. command_part) l._command l.fn.draws.state).text;
  state : l.draws.state ≡ (several (λ _. command_part) l._command l.fn.draws.state).state;
}
