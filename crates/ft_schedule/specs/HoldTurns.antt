-- The turns of a schedule that holds an actor.
use Rattle.std.specs.Prelude.{ℕ, zero, suc, List, [], ◌∷◌, ◌++◌}
use Rattle.ft_base.specs.declared.turn.Turn.{Turn}
use Rattle.ft_base.specs.declared.turn.Who.{Who}
use Rattle.ft_base.specs.declared.turn.Who.TheVariants.{All}
use Rattle.ft_schedule.specs.declared.hostile.TheConstants.{LAST_ROUNDS}

-- a turn of some steps; none of 0 steps
abbrev pub turns_for : Who → ℕ → List Turn
turns_for who zero = []
turns_for who (suc n) = record { who = who; count = suc n } ∷ []

-- the first steps up to a moment, the second goes on alone, and at last all go on in turn
abbrev pub held_turns : Who → ℕ → Who → ℕ → List Turn
held_turns first at hold count = turns_for first at ++ turns_for hold count ++ turns_for All LAST_ROUNDS
