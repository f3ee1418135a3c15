use Rattle.std.proofs.Common.{◌≡◌, ℕ, ◌≤◌, [], Some, vec_len}
use Rattle.std.specs.Prelude.{slice_get, vec_capacity}
use Rattle.trace_views.specs.declared.profile.UserTally.{UserTally}
use Rattle.trace_views.specs.OpenCalls.{IsFollowed}
use Rattle.trace_views.specs.ProfileViews.{IsUserTally}
use Rattle.trace_views.proofs.profile.ProfileView.new.Given as goal

abbrev pub invariant-loop-u : goal.invariant-loop-u
invariant-loop-u g l = record {
  count' : vec_len l.users ≡ l.u;
  room : l.count ≤ vec_capacity l.users;
  calls : IsFollowed (g.N.Named.job l.names) [] l.«open»;
  each : (v : ℕ) (tally : UserTally) → slice_get l.users.items v ≡ Some tally → IsUserTally (g.N.Named.job l.names) [] v tally;
}
