use Rattle.std.proofs.Common.{◌≡◌, ℕ, ◌<◌, ◌==◌, ◌&&◌, ◌||◌, nat_lt}
use Rattle.glob_filter.specs.Matching.{takes}
use Rattle.glob_filter.specs.TokenItems.{item_of}
use Rattle.glob_filter.specs.Places.{has_byte}
use Rattle.glob_filter.proofs.places.set_taken.Given as goal

-- the bytes below the code are done
abbrev pub invariant-loop-code : goal.invariant-loop-code
invariant-loop-code l = (p b : ℕ) → b < 256 → has_byte l.table p b ≡ ((p == l.place && (nat_lt b l.code && takes (item_of l.token) b)) || has_byte l.fn.table p b)
