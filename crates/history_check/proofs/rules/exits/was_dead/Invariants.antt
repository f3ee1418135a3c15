use Rattle.std.proofs.Common.{◌≡◌, ℕ, ◌<◌, ◌≤◌, true, List}
use Rattle.ft_base.specs.declared.item.Item.{Item}
use Rattle.ft_base.specs.Job.{Job}
use Rattle.ft_base.specs.Desk.{desk, is_live}
use Rattle.history_check.specs.JudgePast.{IsPast}
use Rattle.history_check.proofs.rules.exits.was_dead.Given as goal

-- it was live after each number of commands so far
abbrev pub invariant-loop-k : goal.invariant-loop-k
invariant-loop-k l = (job : Job) (items : List Item) → IsPast job items l.past → (j : ℕ) → l.from ≤ j → j < l.k → is_live (desk job j) l.visit.user.0 l.visit.reg ≡ true
