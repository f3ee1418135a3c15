-- The bytes of a call site, as its two words have them.
use Rattle.std.specs.Prelude.{ℕ, ◌≡◌, ◌⊎◌, ◌%◌, List, ◌∷◌, get_or}
use Rattle.ft_base.specs.declared.item.Item.{Item}
use Rattle.ft_base.specs.Desk.{Desk, desk}
use Rattle.ft_base.specs.Job.{Job}
use Rattle.ft_hist.specs.Past.{done, begun}
use Rattle.site_bytes.specs.Bytes.{breakpoint, bytes_of, four_bytes}
use Rattle.word_map.specs.Instructions.{insn_at}
use Rattle.word_map.specs.Words.{Words}

-- the site's first byte, and the other four, the lowest first
abbrev pub site_of : Words → ℕ → List ℕ
site_of ws f = ws.head f % 256 ∷ four_bytes (ws.tail f)

-- the five bytes that a function's site should have on a desk
abbrev pub site_on : Desk → ℕ → List ℕ
site_on d f = bytes_of f (insn_at d f)

-- A function's site with these bytes is whole.
--   whole     it begins with the breakpoint, or its bytes are what it should have after the commands that have returned, or after those
--             that have begun
--   between   between two commands they are what it should have after those that have returned
pub record IsWhole (job : Job) (past : List Item) (f : ℕ) (bytes : List ℕ) : Type 0 where
  pub whole : (get_or bytes 0 0 ≡ breakpoint) ⊎ ((bytes ≡ site_on (desk job (done past)) f) ⊎ (bytes ≡ site_on (desk job (begun past)) f))
  pub between : begun past ≡ done past → bytes ≡ site_on (desk job (done past)) f
