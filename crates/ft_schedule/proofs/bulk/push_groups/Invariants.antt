use Rattle.std.proofs.Common.{◌≡◌, ◌++◌, string_bytes}
use Rattle.ft_schedule.specs.Bulk.{several, group_part}
use Rattle.ft_schedule.proofs.bulk.push_groups.Given as goal

abbrev pub invariant-loop-group : goal.invariant-loop-group
invariant-loop-group l = record {
  text : string_bytes l.text ≡ string_bytes l.fn.text ++ (several (λ _. group_part) l._group l.fn.draws.state).text;
  state : l.draws.state ≡ (several (λ _. group_part) l._group l.fn.draws.state).state;
}
