-- A command and a line of control as a job has them.
use Rattle.std.specs.Prelude.{ℕ, Bool, true, false, length}
use Rattle.ft_base.specs.declared.user.Half.{Half}
use Rattle.ft_base.specs.declared.user.Half.TheVariants.{Filter as FilterHalf, Notrace as NotraceHalf}
use Rattle.ft_base.specs.Job.{Edit, Command as PlainCommand, Register as PlainRegister, Unregister as PlainUnregister, Filter as PlainFilter, Notrace as PlainNotrace, Pid as PlainPid, NoPid as PlainNoPid, Enable as PlainEnable, Disable as PlainDisable, MaxDepth as PlainMaxDepth, Ctl as PlainCtl, Run as PlainRun, Until as PlainUntil}
use Rattle.ft_base.specs.WellFormed.{IsNamedIn, IsSetIn}
use Rattle.site_set.specs.Edits.{plain_edit}
use Rattle.pid_filter.specs.Lists.{tasks_in}
use Rattle.ft_desk.specs.Declarations.{Declared}
use Rattle.ft_desk.specs.declared.command.Command.{Command}
use Rattle.ft_desk.specs.declared.command.Command.TheVariants.{Register, Unregister, Filter, Notrace, Pid, NoPid, Enable, Disable, MaxDepth}
use Rattle.ft_desk.specs.declared.command.Ctl.{Ctl}
use Rattle.ft_desk.specs.declared.command.Ctl.TheVariants.{Run, Until}

-- the command of a job with this many tasks, whose sets are marks
abbrev pub command_of : ℕ → Command → PlainCommand
command_of tasks (Register u) = PlainRegister u.0
command_of tasks (Unregister u) = PlainUnregister u.0
command_of tasks (Filter u e) = PlainFilter u.0 (plain_edit e)
command_of tasks (Notrace u e) = PlainNotrace u.0 (plain_edit e)
command_of tasks (Pid mask) = PlainPid (tasks_in tasks mask)
command_of tasks (NoPid mask) = PlainNoPid (tasks_in tasks mask)
command_of tasks (Enable u) = PlainEnable u.0
command_of tasks (Disable u) = PlainDisable u.0
command_of tasks (MaxDepth depth) = PlainMaxDepth depth

-- the line of a job with this many tasks
abbrev pub ctl_of : ℕ → Ctl → PlainCtl
ctl_of tasks (Run c) = PlainRun (command_of tasks c)
ctl_of tasks (Until t n) = PlainUntil t.0 n

-- the user of a command is one of the declared ones, and an edit has a set of the declared functions
abbrev pub IsInShape : Declared → Command → Type 0
IsInShape d c = IsNamedIn (length d.specs) (command_of d.tasks c) × IsSetIn d.funcs (command_of d.tasks c)

-- an edit of one half of a user's sets
abbrev pub edit_command : ℕ → Half → Edit → PlainCommand
edit_command u FilterHalf e = PlainFilter u e
edit_command u NotraceHalf e = PlainNotrace u e

-- a user is enabled, or disabled
abbrev pub switch_command : ℕ → Bool → PlainCommand
switch_command u true = PlainEnable u
switch_command u false = PlainDisable u
