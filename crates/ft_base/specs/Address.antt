-- Where functions stand in memory.
use Rattle.std.specs.Prelude.{ℕ, ◌+◌, ◌*◌}
use Rattle.ft_base.specs.declared.address.TheConstants.{FIRST_FUNCTION, FUNCTION_STEP}

-- the address of a function, at which its call site begins
abbrev pub function_at : ℕ → ℕ
function_at f = FIRST_FUNCTION + FUNCTION_STEP * f
