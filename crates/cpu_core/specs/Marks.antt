-- The items that a CPU has marked, as contracts see them.
use Rattle.std.specs.Prelude.{ℕ, ◌-◌, ◌<◌, List, [], length, Option, Some, None}
use Rattle.ft_base.specs.declared.limits.TheConstants.{ITEMS}
use Rattle.ft_base.specs.declared.item.Item.{Item}
use Rattle.ft_base.specs.declared.item.Stamped.{Stamped}

-- The items, in the order of their places.
--   room   how many the list has room for
--   left   how many can be marked from the list's first one on, of all that a history may have
pub record Marks : Type 0 where
  pub items : List Stamped
  pub room : ℕ
  pub left : ℕ

-- no items
abbrev pub no_marks : ℕ → Marks
no_marks room = record { items = []; room = room; left = ITEMS }

-- one more can be marked
pub record HasRoom (m : Marks) : Type 0 where
  pub room : length m.items < m.room
  pub left : length m.items < m.left

-- one more was marked, and isn't kept
abbrev pub passed : Marks → Marks
passed m = record m { left = m.left - 1 }

-- this one, or none
abbrev pub handed_on : Option Item → Marks → Marks
handed_on None m = m
handed_on (Some item) m = passed m
