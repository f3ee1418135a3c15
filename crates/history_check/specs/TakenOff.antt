-- The answer of a command, and whom it takes off.
use Rattle.std.specs.Prelude.{ℕ, zero, suc, Option, Some, None, option_map, slice_get}
use Rattle.ft_base.specs.declared.item.Answer.{Answer}
use Rattle.ft_base.specs.Desk.{answer_at}
use Rattle.ft_base.specs.Job.{Job, Command, commands, command_at, takes_off}

-- the user that a command takes off if it is accepted, if there is a command
abbrev pub taken_by : Option Command → Option ℕ
taken_by None = None
taken_by (Some c) = takes_off c

-- the same of the command of a number, if there is one
abbrev pub taken_off : Job → ℕ → Option ℕ
taken_off job k = taken_by (command_at job k)

-- the answer of the command of a number, from 1, if there is one
abbrev pub answer_of : Job → ℕ → Option Answer
answer_of job zero = None
answer_of job (suc k) = option_map (answer_at job k) (slice_get (commands job) k)
