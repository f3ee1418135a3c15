-- How many commands have returned, item by item.
use Rattle.std.specs.Prelude.{ℕ, ◌+◌}
use Rattle.ft_base.specs.declared.item.Item.{Item}
use Rattle.ft_base.specs.declared.item.Item.TheVariants.{Return}

-- after an item, if so many had before it
abbrev pub done_with : Item → ℕ → ℕ
done_with (Return k answer) n = n + 1
done_with _ n = n
