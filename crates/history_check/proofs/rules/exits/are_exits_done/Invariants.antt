use Rattle.std.proofs.Common.{List, take}
use Rattle.std.specs.List.{AllByRecursion as Each}
use Rattle.ft_base.specs.declared.item.Item.{Item}
use Rattle.ft_base.specs.Job.{Job}
use Rattle.history_check.specs.JudgePast.{IsPast}
use Rattle.history_check.proofs.RuleExits.{IsSettled}
use Rattle.history_check.proofs.rules.exits.are_exits_done.Given as goal

-- no visit so far lacks its exit without a reason
abbrev pub invariant-loop-at : goal.invariant-loop-at
invariant-loop-at l = (job : Job) (items : List Item) → IsPast job items l.past → Each (λ m. IsSettled job items l.top.call l.top m) (take l.at l.top.visits.items)
