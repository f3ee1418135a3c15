use Rattle.std.proofs.Common.{◌*◌}
use Rattle.ft_io.specs.Pieces.{Puts}
use Rattle.trace_views.specs.Words.{spaces}
use Rattle.trace_lines.proofs.columns.put_indent.Given as goal

abbrev pub invariant-loop : goal.invariant-loop
invariant-loop g l = Puts g.K.Sink.holds g.K.Sink.faults (spaces (2 * l.counter)) l.fn.sink l.fn.pieces l.sink l.pieces
