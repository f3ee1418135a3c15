use Rattle.ft_base.specs.Job.{Job}
use Rattle.history_check.specs.CallbackCheck.{is_visited}
use Rattle.history_check.specs.DeskRows.{AreOf}
use Rattle.history_check.proofs.SilentLaws.{SilentBelow}
use Rattle.history_check.proofs.backs.Check.is_silent.Given as goal

-- each user so far was visited, or was off
abbrev pub invariant-loop-u : goal.invariant-loop-u
invariant-loop-u l = (job : Job) → AreOf job l.self.desks → SilentBelow job (is_visited l.self l.call) l.entry.from l.self.begun l.entry.func.0 l.u
