use Rattle.std.proofs.Common.{◌≡◌, length}
use Rattle.ft_io.specs.Pieces.{nothing}
use Rattle.log_reader.proofs.ReadLines.{IsReadTo}
use Rattle.log_reader.proofs.log.read_log.Given as goal

-- the items so far were read of the text, and the rest of it is left; the next line can be written
abbrev pub invariant-loop-ended : goal.invariant-loop-ended
invariant-loop-ended g l = IsReadTo (g.N.Named.job l.names) l.text l.items.items l.rest × (l.written.pieces ≡ nothing)

abbrev pub decreases-loop-ended : goal.decreases-loop-ended
decreases-loop-ended g l = length l.rest
