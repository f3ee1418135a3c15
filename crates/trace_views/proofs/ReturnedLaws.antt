-- How many commands have returned, item by item.
use Rattle.std.proofs.Common.{◌≡◌, ℕ, ◌+◌, ◌≤◌, List, ◌∷◌, refl, arith}
use Rattle.ft_base.specs.declared.item.Item.{Item}
use Rattle.ft_base.specs.declared.item.Item.TheVariants.{Return}
use Rattle.ft_hist.specs.Past.{done}
use Rattle.trace_views.specs.Returned.{done_with}

pub done-more : (item : Item) (past : List Item) → done (item ∷ past) ≡ done_with item (done past)
done-more (Return k answer) past = omega arith
done-more _ past = refl

pub done-with-le : (item : Item) (n : ℕ) → done_with item n ≤ n + 1
done-with-le (Return k answer) n = omega arith
done-with-le _ n = omega arith
