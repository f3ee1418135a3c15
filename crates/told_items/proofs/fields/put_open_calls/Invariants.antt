use Rattle.std.proofs.Common.{◌≡◌, ℕ, true, List, ◌++◌, drop}
use Rattle.ft_io.specs.Pieces.{Puts}
use Rattle.told_items.specs.ItemText.{calls_after}
use Rattle.told_items.proofs.fields.put_open_calls.Given as goal

-- the calls so far were put, and those to come make them all
abbrev pub invariant-loop-opened : goal.invariant-loop-opened
invariant-loop-opened g l = (text : List ℕ)
    × Puts g.K.Sink.holds g.K.Sink.faults text l.fn.sink l.fn.pieces l.sink l.pieces
    × (text ++ calls_after (g.N.Named.job l.names) l.exits l.is_first (drop l.opened-index l.calls) ≡ calls_after (g.N.Named.job l.names) l.exits true l.calls)
