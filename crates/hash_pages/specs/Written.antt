-- What the stores of a page make of the words.
use Rattle.std.specs.Prelude.{ℕ, zero, suc, Option, Some, None, slice_get}
use Rattle.filter_hash.specs.Pair.{Pair}
use Rattle.word_map.specs.Words.{Words, put}
use Rattle.word_map.specs.Ops.{WordOp, Load, Store, Mark}
use Rattle.hash_pages.specs.Pages.{Page, page_stores}

-- the words after an operation of a page; it has stores alone
abbrev pub after_op : Option WordOp → Words → Words
after_op None ws = ws
after_op (Some (Store w x)) ws = put w x ws
after_op (Some (Load w)) ws = ws
after_op (Some (Mark item)) ws = ws

-- the words after the first n stores of a page
abbrev pub written : Page → Pair → ℕ → Words → Words
written p pair zero ws = ws
written p pair (suc n) ws = after_op (slice_get (page_stores p pair) n) (written p pair n ws)
