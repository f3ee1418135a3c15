use Rattle.std.proofs.Common.{List, drop}
use Rattle.ft_base.specs.declared.item.Item.{Item}
use Rattle.ft_base.specs.Job.{Job}
use Rattle.history_check.specs.JudgePast.{IsPast}
use Rattle.history_check.proofs.JudgeControl.{Decides}
use Rattle.history_check.proofs.rules.commands.has_waited.Given as goal

-- the waits so far are met, so those of the other lines decide
abbrev pub invariant-loop-line : goal.invariant-loop-line
invariant-loop-line l = (job : Job) (items : List Item) → IsPast job items l.past → Decides job items (drop l.line-index l.past.lines.now)
