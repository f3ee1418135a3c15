use Rattle.std.proofs.Common.{◌≡◌, ℕ, List, ◌++◌, drop}
use Rattle.ft_io.specs.Pieces.{Puts}
use Rattle.trace_views.specs.Words.{lines_text}
use Rattle.trace_lines.proofs.lines.put_lines.Given as goal

-- the texts so far were put, and those of the lines to come make them all
abbrev pub invariant-loop-line : goal.invariant-loop-line
invariant-loop-line g l = (text : List ℕ)
    × Puts g.K.Sink.holds g.K.Sink.faults text l.fn.sink l.fn.pieces l.sink l.pieces
    × (text ++ lines_text (g.L.Line.text (g.N.Named.job l.names)) (drop l.line-index l.lines) ≡ lines_text (g.L.Line.text (g.N.Named.job l.names)) l.lines)
