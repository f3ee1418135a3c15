-- Writing a user's sets into the copy that is not in use, and then naming that copy.
use Rattle.std.specs.Prelude.{ℕ, List, [], ◌∷◌, ◌++◌, map, slice_get, Option}
use Rattle.std.specs.List.{range_with_len}
use Rattle.site_set.specs.Marks.{word_of}
use Rattle.filter_hash.specs.Pair.{Pair}
use Rattle.word_map.specs.declared.shape.Shape.{Shape}
use Rattle.word_map.specs.Words.{Sel, Bits}
use Rattle.word_map.specs.Places.{words_for}
use Rattle.word_map.specs.Ops.{WordOp, Store}

-- a page: its user, the copy that is written, the user's state that names it, and how many words were stored
pub record Page : Type 0 where
  pub shape : Shape
  pub user : ℕ
  pub copy : ℕ
  pub sel : ℕ
  pub stored : ℕ

-- the store of a word of the filter
abbrev pub filter_store : ℕ → ℕ → Pair → ℕ → WordOp
filter_store u copy pair w = Store (Bits u copy 0 w) (word_of pair.filter w)

-- the store of a word of the notrace set
abbrev pub notrace_store : ℕ → ℕ → Pair → ℕ → WordOp
notrace_store u copy pair w = Store (Bits u copy 1 w) (word_of pair.notrace w)

-- All stores in their order: the filter, the notrace set, and last the user's state. A reader goes by the copy that the state names, so
-- a state that is stored before the words would send it to sets that aren't there yet
abbrev pub page_stores : Page → Pair → List WordOp
page_stores p pair =
    map (filter_store p.user p.copy pair) (range_with_len 0 (words_for p.shape.funcs))
    ++ map (notrace_store p.user p.copy pair) (range_with_len 0 (words_for p.shape.funcs))
    ++ Store (Sel p.user) p.sel ∷ []

-- the store after those that were made; none at the end
abbrev pub page_next : Page → Pair → Option WordOp
page_next p pair = slice_get (page_stores p pair) p.stored
