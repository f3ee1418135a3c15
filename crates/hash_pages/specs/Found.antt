-- What a read finds in the words, load by load.
use Rattle.std.specs.Prelude.{ℕ, ◌≡◌, ◌<◌, Bool, ◌&&◌, List, [], ◌∷◌, Option, Some, None, if◌then◌else◌}
use Rattle.ft_base.specs.Desk.{matches_by}
use Rattle.site_set.specs.Marks.{word_of}
use Rattle.filter_hash.specs.Pair.{Pair, size_of}
use Rattle.word_map.specs.declared.shape.Shape.{Shape}
use Rattle.word_map.specs.Words.{Words, read}
use Rattle.word_map.specs.Places.{words_for}
use Rattle.word_map.specs.Ops.{WordOp, Load, Store, Mark}
use Rattle.hash_pages.specs.declared.reader.ReadPhase.TheVariants.{AtSel}
use Rattle.hash_pages.specs.declared.reader.Verdict.{Verdict}
use Rattle.hash_pages.specs.declared.reader.Verdict.TheVariants.{Off, Apart, On}
use Rattle.hash_pages.specs.Reads.{Read, read_next, read_got}

-- a read before its first load
abbrev pub read_start : Shape → ℕ → ℕ → Read
read_start shape u f = record { shape = shape; user = u; func = f; phase = AtSel }

-- a read after this operation on these words; without a load it stays
abbrev pub got_from : Read → Words → Option WordOp → Read
got_from r ws None = r
got_from r ws (Some (Load w)) = read_got r (read w ws)
got_from r ws (Some (Store w x)) = r
got_from r ws (Some (Mark item)) = r

-- a read after its operations on such words: at each operation the words are the next of these, so that others may store meanwhile
abbrev pub read_over : Read → List Words → Read
read_over r [] = r
read_over r (ws ∷ later) = read_over (got_from r ws (read_next r)) later

-- the words have the sets of a pair in this copy of a user
pub record HasPair (ws : Words) (u copy : ℕ) (pair : Pair) : Type 0 where
  pub filter : (w : ℕ) → w < words_for (size_of pair) → ws.bits u copy 0 w ≡ word_of pair.filter w
  pub notrace : (w : ℕ) → w < words_for (size_of pair) → ws.bits u copy 1 w ≡ word_of pair.notrace w

-- what is to be found of a user: off, or else by whether its sets match the function
abbrev pub right_verdict : Bool → Bool → Pair → ℕ → ℕ → Verdict
right_verdict registered enabled pair f reg =
    if registered && enabled then (if matches_by pair.filter pair.notrace f then On reg else Apart) else Off
