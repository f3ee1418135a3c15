-- Lines of control whose numbers are within a shape.
use Rattle.std.specs.Prelude.{ℕ}
use Rattle.ft_base.specs.Job.{Ctl as PlainCtl, Run as PlainRun, Until as PlainUntil}
use Rattle.ft_base.specs.WellFormed.{IsNamedIn}
use Rattle.ft_desk.specs.declared.command.Ctl.{Ctl}
use Rattle.ft_desk.specs.Commands.{ctl_of}
use Rattle.word_machine.specs.Limits.{WaitsFor}

-- the task of a wait is one of so many
abbrev pub IsTaskIn : ℕ → Ctl → Type 0
IsTaskIn tasks line = WaitsFor tasks (ctl_of tasks line)

-- the user of a command is one of so many
abbrev pub IsNamedLine : ℕ → PlainCtl → Type 0
IsNamedLine users (PlainRun x) = IsNamedIn users x
IsNamedLine users (PlainUntil t n) = Unit {0}
