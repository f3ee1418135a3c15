use Rattle.std.proofs.Common.{◌≡◌, ℕ, ◌+◌, ◌*◌, ◌<◌, ◌≤◌, [], replicate, vec_len}
use Rattle.std.specs.Prelude.{map, reverse, get_or, vec_capacity}
use Rattle.ft_base.specs.Versions.{levels}
use Rattle.history_laws.specs.Bound.{calls_of}
use Rattle.trace_views.proofs.open_calls.OpenCalls.new.Given as goal

abbrev pub invariant-loop-t : goal.invariant-loop-t
invariant-loop-t g l = record {
  empty : map (λ v. reverse v.items) l.tasks.items ≡ replicate l.t [];
  count' : vec_len l.tasks ≡ l.t;
  room : l.count ≤ vec_capacity l.tasks;
  rooms : (t : ℕ) → t < l.t → calls_of (g.N.Named.job l.names) t + 2 * levels (g.N.Named.job l.names) ≤ get_or (map (λ v. vec_capacity v) l.tasks.items) t 0;
}
