-- How often a user was called back, and how often an fprobe missed (fprobe.rst, The missed counter).
use Rattle.std.specs.Prelude.{ℕ, Bool, false, ◌==◌, List, length, filter}
use Rattle.ft_base.specs.declared.item.Item.{Item}
use Rattle.ft_base.specs.declared.item.Item.TheVariants.{Back, Refuse, Miss}
use Rattle.ft_base.specs.declared.item.Reason.TheVariants.{Recursion}

-- an entry callback of the user
abbrev pub is_back_of : ℕ → Item → Bool
is_back_of u (Back call v) = v.0 == u
is_back_of u _ = false

-- what the user missed: a callback that the recursion guard refused, or an exit that found no frame
abbrev pub is_missed_by : ℕ → Item → Bool
is_missed_by u (Refuse call v Recursion) = v.0 == u
is_missed_by u (Miss call v) = v.0 == u
is_missed_by u _ = false

-- how often the user was called back at an entry
abbrev pub backs_of : ℕ → List Item → ℕ
backs_of u items = length (filter (λ item. is_back_of u item) items)

-- how often the user missed
abbrev pub missed_by : ℕ → List Item → ℕ
missed_by u items = length (filter (λ item. is_missed_by u item) items)
