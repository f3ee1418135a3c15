-- What contracts see of a history that the program keeps.
use Rattle.std.specs.Prelude.{ℕ, List}
use Rattle.ft_base.specs.declared.item.Item.{Item}

-- its items in order, and for how many more there is room
pub record Shown : Type 0 where
  pub items : List Item
  pub spare : ℕ
