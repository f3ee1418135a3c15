-- What the value of the tests is seen as.
use Rattle.std.specs.Prelude.{ℕ, List}
use Rattle.desk_lock.specs.declared.served.Served1.{Served1}

-- how many items each lane has, and what was served
pub record Noted : Type 0 where
  pub counts : List ℕ
  pub served : List Served1
