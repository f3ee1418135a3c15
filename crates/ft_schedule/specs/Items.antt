-- The items of a schedule's text, and their turns.
use Rattle.std.specs.Prelude.{ℕ, Bool, ◌==◌, ◌&&◌, ◌+◌, ◌-◌, nat_le, List, [], ◌∷◌, map, take, drop, position, codes, Option, Some, None, option_map, if◌then◌else◌}
use Rattle.std.specs.Str.{bytes_eq}
use Rattle.ft_base.specs.declared.turn.Who.{Who}
use Rattle.ft_base.specs.declared.turn.Who.TheVariants.{Control, Cpu, All}
use Rattle.ft_base.specs.declared.turn.Turn.{Turn}
use Rattle.script_text.specs.Lines.{Word, words_of}
use Rattle.script_text.specs.Words.{both, all_read}
use Rattle.script_text.specs.Names.{number_of}
use Rattle.ft_schedule.specs.declared.item.SchedItem.{SchedItem}

-- a CPU is one digit from 0 to 7
abbrev pub cpu_of : Word → Option Who
cpu_of (digit ∷ []) = if nat_le 48 digit && nat_le digit 55 then Some (Cpu (record { 0 = digit - 48 })) else None
cpu_of _ = None

-- `k`, `all` or a CPU
abbrev pub who_of : Word → Option Who
who_of word = if bytes_eq word (codes "k") then Some Control else (if bytes_eq word (codes "all") then Some All else cpu_of word)

-- an item of these parts, if there are both
abbrev pub item_with : Option Who → Option ℕ → Option SchedItem
item_with who count = both (λ w n. record { who = w; count = n }) who count

-- an item that is cut at this place, or whole
abbrev pub item_cut : Word → Option ℕ → Option SchedItem
item_cut word None = item_with (who_of word) (Some 1)
item_cut word (Some i) = item_with (who_of (take i word)) (number_of (drop (i + 1) word))

-- a `*`
abbrev pub is_star : ℕ → Bool
is_star b = b == 42

-- an item is cut at its first `*`; without one its count is 1
abbrev pub item_of : Word → Option SchedItem
item_of word = item_cut word (position is_star word)

-- the items of these words, if there are words and each is an item
abbrev pub some_items_of : List Word → Option (List SchedItem)
some_items_of [] = None
some_items_of (word ∷ words) = all_read item_of (word ∷ words)

-- the items of a text, if it is one item or more
unfoldable pub items_in : List ℕ → Option (List SchedItem)
items_in text = some_items_of (words_of text)

-- the turn of an item
abbrev pub turn_from : SchedItem → Turn
turn_from item = record { who = item.who; count = item.count }

-- the turns of a text
abbrev pub turns_in : List ℕ → Option (List Turn)
turns_in text = option_map (map turn_from) (items_in text)
