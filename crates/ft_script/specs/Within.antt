-- What is declared is within the limits, and in order.
use Rattle.std.specs.Prelude.{◌≡◌, ◌≤◌, ◌<◌, ◌+◌, ◌^◌, ℕ, [], length, unwrap_or}
use Rattle.ft_base.specs.declared.limits.TheConstants.{CPUS, LANES, COMMANDS, UNTILS, ACTS, LEVELS, STEPS}
use Rattle.ft_base.specs.Versions.{limits_of, IsFew}
use Rattle.ft_script.specs.declared.levels.Levels.{Levels}
use Rattle.ft_script.specs.Levels.{open_calls}
use Rattle.ft_script.specs.Above.{Above, none_above}
use Rattle.ft_script.specs.Expansion.{command_count}

-- no more acts and open calls than there may be; the calls are among the acts
pub record FewActs (levels : Levels) (acts calls : ℕ) : Type 0 where
  pub few_acts : acts ≤ ACTS
  pub few_calls : calls ≤ acts
  pub few_open : open_calls levels ≤ LEVELS

-- what is declared is within the limits of its version; a script that doesn't say its slots has no more than it may
pub record IsWithinLimits (above : Above) : Type 0 where
  pub counts : IsFew (limits_of above.version) (length above.functions) (length above.users) (length above.tasks) (unwrap_or above.tramps 0)
  pub few_cpus : length above.quanta ≤ CPUS
  pub acts : FewActs above.levels above.acts above.calls
  pub few_commands : command_count above ≤ COMMANDS
  pub few_waits : above.waits ≤ UNTILS
  pub few_lanes : above.lane_count ≤ LANES
  pub few_steps : above.steps ≤ STEPS

-- lines come in the order of their ranks: above line 1 nothing is declared, as long as no line that says a module is absent and no trigger can
-- have come there is none, as long as no line of a task can have come there is no call, and as long as no lane and no line of control can have
-- come there is none
pub record IsInOrder (above : Above) : Type 0 where
  pub first : above.lines ≡ 0 → above ≡ none_above
  pub absent : above.rank < 2 → above.absent ≡ []
  pub triggers : above.rank < 2 → above.triggers ≡ []
  pub calls : above.rank < 5 → above.calls ≡ 0
  pub lanes : above.rank < 6 → above.lane_count ≡ 0
  pub ctls : above.rank < 6 → above.ctls ≡ []

-- the same, and the next line has a number of 32 bits
pub record IsSmall (above : Above) : Type 0 where
  pub numbered : above.lines + 1 < 2 ^ 32
  pub within : IsWithinLimits above
  pub order : IsInOrder above
