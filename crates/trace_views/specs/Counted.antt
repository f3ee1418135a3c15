-- The counts that the program keeps, against the items so far.
use Rattle.std.specs.Prelude.{ℕ, ◌≡◌, ◌+◌, ◌<◌, ◌^◌, Bool, List, length, if◌then◌else◌}
use Rattle.ft_base.specs.declared.item.Item.{Item}
use Rattle.ft_base.specs.declared.item.ItemKind.{ItemKind}
use Rattle.trace_views.specs.declared.counts.Counts.{Counts}
use Rattle.trace_views.specs.declared.counts.Totals.{Totals}
use Rattle.trace_views.specs.ItemCounts.{count_of, is_enter, is_back, is_refuse, is_exit, is_miss}

-- the counts of items
pub record IsCounted (items : List Item) (c : Counts) : Type 0 where
  pub calls : c.calls ≡ count_of is_enter items
  pub backs : c.backs ≡ count_of is_back items
  pub refused : c.refused ≡ count_of is_refuse items
  pub exits : c.exits ≡ count_of is_exit items
  pub missed : c.missed ≡ count_of is_miss items

-- how many items there are, and the counts of them
pub record AreTotals (items : List Item) (t : Totals) : Type 0 where
  pub many : t.items ≡ length items
  pub counted : IsCounted items t.counts

-- each count can take one more
pub record HasRoom (c : Counts) : Type 0 where
  pub calls : c.calls + 1 < 2 ^ 32
  pub backs : c.backs + 1 < 2 ^ 32
  pub refused : c.refused + 1 < 2 ^ 32
  pub exits : c.exits + 1 < 2 ^ 32
  pub missed : c.missed + 1 < 2 ^ 32

-- one more if it passes
abbrev pub more : Bool → ℕ → ℕ
more passes n = n + (if passes then 1 else 0)

-- the counts with one more item of a kind
abbrev pub with_kind : ItemKind → Counts → Counts
with_kind kind c = record {
  calls = more (is_enter kind) c.calls;
  backs = more (is_back kind) c.backs;
  refused = more (is_refuse kind) c.refused;
  exits = more (is_exit kind) c.exits;
  missed = more (is_miss kind) c.missed;
}
