-- The fields of a task's acts, and what contracts see of them.
use Rattle.std.specs.Prelude.{◌≤◌, length}
use Rattle.ft_base.specs.declared.limits.TheConstants.{ACTS}
use Rattle.task_core.specs.declared.acts.Acts.TheInside.{Inside}
use Rattle.task_core.specs.TaskActs.{TaskActs}

-- what contracts see
abbrev pub acts_of : Inside → TaskActs
acts_of d = record { all = d.acts.items; gone = d.gone }

-- there are no more acts than a script may have, and no more are finished than there are
pub record ActsInvariant (d : Inside) : Type 0 where
  pub few : length d.acts.items ≤ ACTS
  pub gone : d.gone ≤ length d.acts.items
