use Rattle.std.proofs.Common.{◌≡◌, ℕ, List, ◌++◌, drop}
use Rattle.ft_io.specs.Pieces.{Puts}
use Rattle.told_facts.specs.Values.{escaped}
use Rattle.told_facts.proofs.fields.put_escaped.Given as goal

-- the bytes so far were put, and those to come make them all
abbrev pub invariant-loop-byte : goal.invariant-loop-byte
invariant-loop-byte g l = (text : List ℕ)
    × Puts g.K.Sink.holds g.K.Sink.faults text l.fn.sink l.fn.pieces l.sink l.pieces
    × (text ++ escaped (drop l.byte-index l.bytes) ≡ escaped l.bytes)
