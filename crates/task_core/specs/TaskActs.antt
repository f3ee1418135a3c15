-- The acts of a task, as code has them.
use Rattle.std.specs.Prelude.{ℕ, List}
use Rattle.ft_base.specs.declared.task.TaskAct.{TaskAct}

-- all acts, and how many are finished
pub record TaskActs : Type 0 where
  pub all : List TaskAct
  pub gone : ℕ
