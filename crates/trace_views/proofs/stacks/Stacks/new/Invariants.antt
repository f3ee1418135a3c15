use Rattle.std.proofs.Common.{◌≡◌, ◌≤◌, [], replicate, vec_len}
use Rattle.std.specs.Prelude.{map, reverse, vec_capacity}
use Rattle.trace_views.proofs.stacks.Stacks.new.Given as goal

abbrev pub invariant-loop : goal.invariant-loop
invariant-loop g l = record {
  empty : map (λ v. reverse v.items) l.stacks.items ≡ replicate l.counter [];
  count : vec_len l.stacks ≡ l.counter;
  room : l.tasks ≤ vec_capacity l.stacks;
}
