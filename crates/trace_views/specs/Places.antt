-- What is printed place by place: the items before a place are its past, the latest first.
use Rattle.std.specs.Prelude.{ℕ, suc, List, [], drop, slice_get, Option, Some, None}
use Rattle.ft_base.specs.declared.item.Item.{Item}
use Rattle.ft_hist.specs.Telling.{past_at}

-- what the item at a place prints, nothing if there is none; `text` is told the items before it, the latest first, and those after it
abbrev pub part_at : (List Item → Item → List Item → List ℕ) → ℕ → List Item → List ℕ
part_at text p items = of_item (slice_get items p)
  where
    of_item : Option Item → List ℕ
    of_item None = []
    of_item (Some item) = text (past_at p items) item (drop (suc p) items)
