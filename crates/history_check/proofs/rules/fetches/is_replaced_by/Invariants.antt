use Rattle.std.proofs.Common.{◌≡◌, None, List, drop}
use Rattle.ft_base.specs.declared.item.Item.{Item}
use Rattle.ft_base.specs.Job.{Job}
use Rattle.history_check.specs.JudgePast.{IsPast}
use Rattle.history_check.proofs.RuleFetches.{is_run}
use Rattle.history_check.proofs.rules.fetches.is_replaced_by.Given as goal

-- what the visits to come say, with what was found, is what all say
abbrev pub invariant-loop-at : goal.invariant-loop-at
invariant-loop-at l = (job : Job) (items : List Item) → IsPast job items l.past
    → is_run job l.top.func.0 l.runs.0 None l.top.visits.items ≡ is_run job l.top.func.0 l.runs.0 l.found (drop l.at l.top.visits.items)
