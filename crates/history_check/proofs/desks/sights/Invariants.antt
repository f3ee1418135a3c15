use Rattle.std.proofs.Common.{◌≡◌, ℕ, length, Some}
use Rattle.std.specs.Prelude.{slice_get}
use Rattle.ft_base.specs.Desk.{user_at}
use Rattle.history_check.specs.declared.desks.Sight.{Sight}
use Rattle.history_check.specs.DeskRows.{IsSightOf}
use Rattle.history_check.proofs.desks.sights.Given as goal

-- the users below this one are there
abbrev pub invariant-loop-u : goal.invariant-loop-u
invariant-loop-u l = record {
  size : length l.users.items ≡ l.u;
  each : (v : ℕ) (s : Sight) → slice_get l.users.items v ≡ Some s → IsSightOf (user_at l.desk.state v) s;
}
