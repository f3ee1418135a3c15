-- Lists that have something for each task.
use Rattle.std.specs.Prelude.{ℕ, ◌≡◌, ◌<◌, List, length, get_or}

-- a list that has for each of the first tasks what it should
pub record IsByTask {A : Type 0} (tasks : ℕ) (none : A) (of : ℕ → A) (xs : List A) : Type 0 where
  pub tasks' : length xs ≡ tasks
  pub each : (t : ℕ) → t < tasks → get_or xs t none ≡ of t
