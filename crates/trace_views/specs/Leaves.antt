-- The leaves of a user: for each of its entry callbacks the place of its exit, if that is the user's next callback in the task.
use Rattle.std.specs.Prelude.{ℕ, suc, ◌≡◌, ◌<◌, ◌==◌, List, [], ◌∷◌, reverse, Option, Some, None, if◌then◌else◌}
use Rattle.std.specs.List.{AllByRecursion as Each}
use Rattle.ft_base.specs.declared.item.Item.{Item}
use Rattle.ft_base.specs.declared.item.Item.TheVariants.{Back, Exit}
use Rattle.trace_views.specs.declared.leaves.NextExit.{NextExit}
use Rattle.trace_views.specs.declared.leaves.Leaves.{Leaves}
use Rattle.trace_views.specs.ByTask.{IsByTask}
use Rattle.trace_views.specs.GraphText.{is_here, leaf_exit}

-- those among items that begin at place `p`
abbrev pub leaf_exits : ℕ → ℕ → List Item → List (Option ℕ)
leaf_exits u p [] = []
leaf_exits u p (Back call v ∷ rest) =
    if v.0 == u then leaf_exit u call.task.0 p (suc p) rest ∷ leaf_exits u (suc p) rest else leaf_exits u (suc p) rest
leaf_exits u p (_ ∷ rest) = leaf_exits u (suc p) rest

-- a callback is of one of the first tasks
abbrev pub IsInTasks : ℕ → Item → Type 0
IsInTasks tasks (Back call v) = call.task.0 < tasks
IsInTasks tasks (Exit call v entry) = call.task.0 < tasks
IsInTasks tasks _ = Unit {0}

-- each callback is
abbrev pub AreInTasks : ℕ → List Item → Type 0
AreInTasks tasks items = Each (IsInTasks tasks) items

-- the user's first callback in the task among items that begin at place `p`, if it is an exit
abbrev pub next_exit : ℕ → ℕ → ℕ → List Item → Option NextExit
next_exit u t p [] = None
next_exit u t p (Back call v ∷ rest) = if is_here u t v.0 call then None else next_exit u t (suc p) rest
next_exit u t p (Exit call v entry ∷ rest) =
    if is_here u t v.0 call then Some (record { place = p; entry = entry }) else next_exit u t (suc p) rest
next_exit u t p (_ ∷ rest) = next_exit u t (suc p) rest

-- the place of an exit, if it is that of the entry callback at place `entry`
abbrev pub exit_for : ℕ → Option NextExit → Option ℕ
exit_for entry None = None
exit_for entry (Some next) = if next.entry == entry then Some next.place else None

-- what the program keeps of the items from place `p` on
pub record IsLeaves (u tasks p : ℕ) (rest : List Item) (leaves : Leaves) : Type 0 where
  pub next : IsByTask tasks None (λ t. next_exit u t p rest) leaves.next.items
  pub exits : leaves.exits.items ≡ reverse (leaf_exits u p rest)
