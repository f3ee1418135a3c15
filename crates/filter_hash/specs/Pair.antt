-- A user's two sets of functions.
use Rattle.std.specs.Prelude.{ℕ, map, length}
use Rattle.std.specs.List.{range_with_len}
use Rattle.ft_base.specs.declared.user.Half.{Half}
use Rattle.ft_base.specs.declared.user.Half.TheVariants.{Filter, Notrace}
use Rattle.ft_base.specs.Marks.{Marks, empty}
use Rattle.ft_base.specs.Desk.{matches_by}

-- the functions that the filter holds, and those that the notrace set keeps out; both sets have one size
pub record Pair : Type 0 where
  pub filter : Marks
  pub notrace : Marks

-- how many functions there are
abbrev pub size_of : Pair → ℕ
size_of pair = length pair.filter

-- nothing in either set
abbrev pub empty_pair : ℕ → Pair
empty_pair size = record { filter = empty size; notrace = empty size }

-- the set of one half
abbrev pub set_of : Pair → Half → Marks
set_of pair Filter = pair.filter
set_of pair Notrace = pair.notrace

-- the pair with another set in one half
abbrev pub with_set : Pair → Half → Marks → Pair
with_set pair Filter set = record pair { filter = set }
with_set pair Notrace set = record pair { notrace = set }

-- the set of the matched functions
unfoldable pub matched : Pair → Marks
matched pair = map (matches_by pair.filter pair.notrace) (range_with_len 0 (size_of pair))
