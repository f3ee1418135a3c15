-- Lines of control whose numbers are among those that a desk declares.
use Rattle.std.specs.Prelude.{ℕ, ◌<◌, List, map}
use Rattle.ft_base.specs.Job.{Ctl as PlainCtl}
use Rattle.ft_desk.specs.declared.command.Ctl.{Ctl}
use Rattle.ft_desk.specs.declared.command.Ctl.TheVariants.{Run, Until}
use Rattle.ft_desk.specs.Commands.{IsInShape, ctl_of}
use Rattle.ft_desk.specs.Declarations.{Declared}

-- a line of a desk that declares this
abbrev pub IsLineIn : Declared → Ctl → Type 0
IsLineIn d (Run x) = IsInShape d x
IsLineIn d (Until t n) = t.0 < d.tasks

-- the lines of a job with this many tasks
abbrev pub lines_of : ℕ → List Ctl → List PlainCtl
lines_of tasks ctls = map (ctl_of tasks) ctls
