-- Two neighbouring items that change places: what that changes of the items after them, and which items may.
use Rattle.std.specs.Prelude.{ℕ, suc, Bool, true, false, ◌==◌, List, length, map, if◌then◌else◌}
use Rattle.ft_base.specs.declared.item.Item.{Item}
use Rattle.ft_base.specs.declared.item.Item.TheVariants.{Back, Refuse, Miss, Body, Exit, Ret}
use Rattle.ft_base.specs.Job.{Job}
use Rattle.ft_hist.specs.Rules.{IsLegal, IsWhole}

-- where an item stands after those at place p and at the next have changed places
abbrev pub moved_place : ℕ → ℕ → ℕ
moved_place p e = if e == p then suc p else (if e == suc p then p else e)

-- an item after places have moved so: an exit names the place of its entry callback
abbrev pub with_places : (ℕ → ℕ) → Item → Item
with_places to (Exit call u entry) = Exit call u (to entry)
with_places to item = item

-- the items after two that have changed places, which stand behind these
abbrev pub exchanged : List Item → List Item → List Item
exchanged before after = map (with_places (moved_place (length before))) after

-- a history becomes another that is legal if it is, and whole if it is
abbrev pub StaysLegal : Job → List Item → List Item → Type 0
StaysLegal job items items' = (IsLegal job items → IsLegal job items') × (IsWhole job items → IsWhole job items')

-- an item of a task may have to come after a Begin: what it tells may be so by a command that has begun
abbrev pub waits_for_begin : Item → Bool
waits_for_begin (Back call u) = true
waits_for_begin (Refuse call u reason) = true
waits_for_begin (Body call g ran) = true
waits_for_begin (Exit call u entry) = true
waits_for_begin (Ret call to) = true
waits_for_begin _ = false

-- an item of a task may have to come before a Return: it is read at the commands that have returned, or a window or a wait begins or
-- ends with it
abbrev pub reads_returns : Item → Bool
reads_returns (Miss call u) = false
reads_returns (Body call g ran) = false
reads_returns (Ret call to) = false
reads_returns _ = true
