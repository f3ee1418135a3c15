use Rattle.std.proofs.Common.{◌≡◌, ◌≤◌, map, vec_capacity, vec_len}
use Rattle.std.specs.List.{range_with_len}
use Rattle.ft_base.specs.Desk.{target}
use Rattle.history_check.proofs.desks.runs_of.Given as goal

-- what the functions below this one run is there
abbrev pub invariant-loop-f : goal.invariant-loop-f
invariant-loop-f l = record {
  runs : l.runs.items ≡ map (target l.desk.state) (range_with_len 0 l.f);
  size : vec_len l.runs ≡ l.f;
  room : l.count ≤ vec_capacity l.runs;
}
