-- Marked items in lists, each with its place in the history, and the history that they make.
use Rattle.std.specs.Prelude.{ℕ, zero, suc, ◌≡◌, ◌+◌, ◌<◌, ◌==◌, List, [], ◌∷◌, length, map, reverse, set, sum_by, Option, Some, None, if◌then◌else◌}
use Rattle.std.specs.List.{AllByRecursion as Each}
use Rattle.std.specs.Global.{Vec}
use Rattle.ft_base.specs.declared.item.Item.{Item}
use Rattle.ft_base.specs.declared.item.Stamped.{Stamped}

-- the item that is marked at a place, if there is one
abbrev pub item_in : List Stamped → ℕ → Option Item
item_in [] p = None
item_in (s ∷ rest) p = if s.place == p then Some s.item else item_in rest p

-- one of two, the first if there is one
abbrev pub or_item : Option Item → Option Item → Option Item
or_item (Some item) other = Some item
or_item None other = other

-- the same of several lists
abbrev pub item_among : List (List Stamped) → ℕ → Option Item
item_among [] p = None
item_among (xs ∷ rest) p = or_item (item_in xs p) (item_among rest p)

-- an item before others, if there is one
abbrev pub before : Option Item → List Item → List Item
before None past = past
before (Some item) past = item ∷ past

-- the items below a place, the latest first
abbrev pub past_below : List (List Stamped) → ℕ → List Item
past_below ls zero = []
past_below ls (suc p) = before (item_among ls p) (past_below ls p)

-- ## places

-- the items of a list are marked below a place
abbrev pub AreCounted : ℕ → List Stamped → Type 0
AreCounted n items = Each (λ s. s.place < n) items

-- how many of its items are marked at a place
abbrev pub times_in : List Stamped → ℕ → ℕ
times_in [] p = 0
times_in (s ∷ rest) p = (if s.place == p then 1 else 0) + times_in rest p

-- the same of several lists
abbrev pub times_among : List (List Stamped) → ℕ → ℕ
times_among [] p = 0
times_among (xs ∷ rest) p = times_in xs p + times_among rest p

-- how many items they have
abbrev pub total : List (List Stamped) → ℕ
total lists = sum_by (λ xs. length xs) lists

-- there are n items, at the places 0 to n - 1, each once
pub record ArePlaced (n : ℕ) (lists : List (List Stamped)) : Type 0 where
  pub count : total lists ≡ n
  pub below : Each (AreCounted n) lists
  pub once : (p : ℕ) → p < n → times_among lists p ≡ 1

-- all of them by place
abbrev pub by_place : List (List Stamped) → List Item
by_place lists = reverse (past_below lists (total lists))

-- what several vectors of marked items hold
abbrev pub items_of : List (Vec Stamped) → List (List Stamped)
items_of vs = map (λ v. v.items) vs

-- ## writing

-- items with those of a list written over them, each at its place
abbrev pub placed : List Item → List Stamped → List Item
placed kept [] = kept
placed kept (s ∷ rest) = placed (set kept s.place s.item) rest

-- the same of several lists
abbrev pub placed_all : List Item → List (List Stamped) → List Item
placed_all kept [] = kept
placed_all kept (xs ∷ rest) = placed_all (placed kept xs) rest
