-- How many items of a kind there are.
use Rattle.std.specs.Prelude.{ℕ, Bool, true, false, List, length, filter}
use Rattle.ft_base.specs.declared.item.Item.{Item}
use Rattle.ft_base.specs.declared.item.ItemKind.{ItemKind}
use Rattle.ft_base.specs.declared.item.ItemKind.TheVariants.{Enter, Back, Refuse, Miss, Exit}
use Rattle.ft_base.specs.Items.{kind_of}

-- a call is entered
abbrev pub is_enter : ItemKind → Bool
is_enter Enter = true
is_enter _ = false

-- an entry callback begins
abbrev pub is_back : ItemKind → Bool
is_back Back = true
is_back _ = false

-- a user is refused
abbrev pub is_refuse : ItemKind → Bool
is_refuse Refuse = true
is_refuse _ = false

-- an exit callback begins
abbrev pub is_exit : ItemKind → Bool
is_exit Exit = true
is_exit _ = false

-- an exit couldn't be set up
abbrev pub is_miss : ItemKind → Bool
is_miss Miss = true
is_miss _ = false

-- how many items are of a kind that passes
abbrev pub count_of : (ItemKind → Bool) → List Item → ℕ
count_of passes items = length (filter (λ item. passes (kind_of item)) items)
