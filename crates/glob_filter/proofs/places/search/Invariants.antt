use Rattle.std.proofs.Common.{drop}
use Rattle.glob_filter.proofs.PlaceLemmas.{IsDecidedBy}
use Rattle.glob_filter.proofs.places.search.Given as goal

-- the places of the state decide on what is left of the name
abbrev pub invariant-loop-byte : goal.invariant-loop-byte
invariant-loop-byte l = IsDecidedBy l.takes l.stars l.start l.name l.state (drop l.byte-index l.name)
