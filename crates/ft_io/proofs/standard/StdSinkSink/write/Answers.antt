use Rattle.std.proofs.Common.{take, drop, sym, take-append-drop}
use Rattle.std.proofs.KnownBytes.{Appends-kept}
use Rattle.ft_io.proofs.standard.StdSinkSink.write.Goals as goal

-- the writer took bytes, and then the flush failed
pub returns-then-is_err-clause-output : goal.returns-then-is_err-clause-output
returns-then-is_err-clause-output g c = (
  take c.in-Ok.n c.args.piece.now,
  drop c.in-Ok.n c.args.piece.now,
  sym (take-append-drop c.in-Ok.n c.args.piece.now),
  Appends-kept _ _ _ _ c.in-Ok.ensures.bytes c.flush.ensures.bytes,
)
