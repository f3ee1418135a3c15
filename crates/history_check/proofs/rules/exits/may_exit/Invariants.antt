use Rattle.std.proofs.Common.{List, take}
use Rattle.std.specs.List.{AllByRecursion as Each}
use Rattle.ft_base.specs.declared.item.Item.{Item}
use Rattle.ft_base.specs.Job.{Job}
use Rattle.history_check.specs.JudgePast.{IsPast}
use Rattle.history_check.proofs.RuleExits.{MayEnd}
use Rattle.history_check.proofs.rules.exits.may_exit.Given as goal

-- none of the visits so far is it
abbrev pub invariant-loop-at : goal.invariant-loop-at
invariant-loop-at l = (job : Job) (items : List Item) → IsPast job items l.past
    → Each (λ m. MayEnd job items l.top.call l.user.0 l.entry m → ⊥) (take l.at l.top.visits.items)
