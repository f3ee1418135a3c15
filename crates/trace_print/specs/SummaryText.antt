-- The summary of a history: how many items of each kind it has.
use Rattle.std.specs.Prelude.{ℕ, Bool, List, ◌++◌, length, codes}
use Rattle.std.specs.Fmt.{decimal}
use Rattle.ft_base.specs.declared.item.Item.{Item}
use Rattle.trace_views.specs.Words.{last_line}
use Rattle.trace_views.specs.ItemCounts.{count_of, is_enter, is_back, is_refuse, is_exit, is_miss}

-- a line: a word and a number
abbrev pub number_line : List ℕ → ℕ → List ℕ
number_line word n = word ++ (codes " " ++ (decimal n ++ codes "\n"))

-- the text, of the history of the script that was generated from the number `n`
unfoldable pub summary_text : ℕ → List Item → Bool → List ℕ
summary_text n items ended =
    number_line (codes "seed") n ++ (number_line (codes "items") (length items) ++ (number_line (codes "calls") (count_of is_enter items)
    ++ (number_line (codes "backs") (count_of is_back items) ++ (number_line (codes "refused") (count_of is_refuse items)
    ++ (number_line (codes "exits") (count_of is_exit items) ++ (number_line (codes "missed") (count_of is_miss items) ++ last_line ended))))))
