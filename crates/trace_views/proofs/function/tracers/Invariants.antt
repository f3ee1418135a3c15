use Rattle.std.proofs.Common.{◌≡◌, ℕ, ◌<◌, ◌≤◌, true, vec_len}
use Rattle.std.specs.Prelude.{get_or, vec_capacity}
use Rattle.ft_base.specs.Desk.{spec_at}
use Rattle.ft_base.specs.Kinds.{is_function}
use Rattle.trace_views.proofs.function.tracers.Given as goal

abbrev pub invariant-loop-u : goal.invariant-loop-u
invariant-loop-u g l = record {
  count : vec_len l.tracers ≡ l.u;
  room : l.users ≤ vec_capacity l.tracers;
  told : (u : ℕ) → u < l.u → get_or l.tracers.items u true ≡ is_function (spec_at (g.N.Named.job l.names) u).kind;
}
