use Rattle.std.proofs.Common.{◌≡◌, ℕ, ◌<◌, ◌≤◌, List}
use Rattle.ft_base.specs.declared.item.Item.{Item}
use Rattle.ft_base.specs.Job.{Job}
use Rattle.ft_base.specs.Desk.{desk, target}
use Rattle.history_check.specs.TaskCalls.{IsTop}
use Rattle.history_check.specs.JudgePast.{IsPast}
use Rattle.history_check.proofs.rules.fetches.was_target.Given as goal

-- the target was another after each number of commands so far
abbrev pub invariant-loop-k : goal.invariant-loop-k
invariant-loop-k l = (job : Job) (items : List Item) → IsPast job items l.past → IsTop job items l.top.call l.top
    → (j : ℕ) → l.top.from ≤ j → j < l.k → l.ran ≡ target (desk job j) l.top.func.0 → ⊥
