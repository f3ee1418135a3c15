use Rattle.std.proofs.Common.{◌≡◌, ℕ, List, ◌++◌, drop}
use Rattle.ft_io.specs.Pieces.{Puts}
use Rattle.trace_views.specs.LogText.{log_lines}
use Rattle.trace_lines.proofs.log.put_log.Given as goal

-- the lines so far were put, those of the items to come make them all, and the digits are of the place
abbrev pub invariant-loop-place : goal.invariant-loop-place
invariant-loop-place g l = (text : List ℕ)
    × Puts g.K.Sink.holds g.K.Sink.faults text l.fn.sink l.fn.pieces l.sink l.pieces
    × (text ++ log_lines (g.N.Named.job l.names) l.place (drop l.place l.history.items) ≡ log_lines (g.N.Named.job l.names) 0 l.history.items)
    × (l.digits ≡ l.place)
