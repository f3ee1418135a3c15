use Rattle.ft_base.specs.Job.{Job}
use Rattle.history_check.specs.DeskRows.{AreOf}
use Rattle.history_check.proofs.RuleCalls.{has_visit}
use Rattle.history_check.proofs.SilentLaws.{SilentBelow}
use Rattle.history_check.proofs.rules.silence.is_silent.Given as goal

-- each user so far was visited, or was off
abbrev pub invariant-loop-u : goal.invariant-loop-u
invariant-loop-u l = (job : Job) → AreOf job l.past.desks → SilentBelow job (has_visit l.top) l.top.from l.past.begun l.top.func.0 l.u
