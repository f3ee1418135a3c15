use Rattle.std.proofs.Common.{◌≡◌, ℕ, true, List, ◌++◌, drop, codes}
use Rattle.ft_io.specs.Pieces.{Puts}
use Rattle.told_items.specs.ItemText.{places_after}
use Rattle.told_items.proofs.fields.put_places.Given as goal

-- the places so far were put, and those to come make them all
abbrev pub invariant-loop-owed : goal.invariant-loop-owed
invariant-loop-owed g l = (text : List ℕ)
    × Puts g.K.Sink.holds g.K.Sink.faults text l.fn.sink l.fn.pieces l.sink l.pieces
    × (text ++ places_after l.is_first l.call (drop l.owed-index l.exits) ≡ codes "[" ++ places_after true l.call l.exits)
