use Rattle.std.proofs.Common.{◌≡◌, ℕ, ◌<◌, ◌≤◌, true}
use Rattle.ft_base.specs.Job.{Job}
use Rattle.ft_base.specs.Desk.{desk, is_on}
use Rattle.history_check.specs.DeskRows.{AreOf}
use Rattle.history_check.proofs.desks.Desks.was_off.Given as goal

-- it was on after each number of commands so far
abbrev pub invariant-loop-k : goal.invariant-loop-k
invariant-loop-k l = (job : Job) → AreOf job l.self → (j : ℕ) → l.from ≤ j → j < l.k → is_on (desk job j) l.u.0 l.f.0 ≡ true
