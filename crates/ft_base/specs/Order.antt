-- The registered users in the order in which the list caller walks them, the latest first.
use Rattle.std.specs.Prelude.{ℕ, ◌≡◌, ◌<◌, ◌≤◌, Bool, true, not, ◌==◌, List, [], ◌∷◌, is_some}
use Rattle.std.specs.List.{filter, list_any, AllByRecursion as Each}
use Rattle.ft_base.specs.Job.{Job, Command, Register, Unregister, funcs}
use Rattle.ft_base.specs.Desk.{Desk, spec_at, user_at, is_on}

-- a registered user was registered before another
abbrev pub IsBelow : Desk → ℕ → ℕ → Type 0
IsBelow d u v = (user_at d v).since < (user_at d u).since

-- each was registered after those that follow
abbrev pub IsFalling : Desk → List ℕ → Type 0
IsFalling d [] = Unit {0}
IsFalling d (u ∷ us) = Each (λ v. IsBelow d u v) us × IsFalling d us

-- a list of users has this one
abbrev pub has : ℕ → List ℕ → Bool
has u us = list_any (λ v. v == u) us

-- the list has exactly the registered users, the latest first
pub record IsOrder (d : Desk) (k : ℕ) (order : List ℕ) : Type 0 where
  pub members : (u : ℕ) → has u order ≡ (user_at d u).registered
  pub falling : IsFalling d order
  pub recent : (u : ℕ) → (user_at d u).since ≤ k

-- at most one user that is on replaces a function of the job
abbrev pub OneModifies : Job → Desk → Type 0
OneModifies job d = (f u v : ℕ) → f < funcs job → is_on d u f ≡ true → is_on d v f ≡ true
    → is_some (spec_at job u).ipmodify ≡ true → is_some (spec_at job v).ipmodify ≡ true → u ≡ v

-- the list after an accepted command
abbrev pub order_after : List ℕ → Command → List ℕ
order_after order (Register u) = u ∷ order
order_after order (Unregister u) = filter (λ v. not (v == u)) order
order_after order _ = order
