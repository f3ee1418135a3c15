use Rattle.std.proofs.Common.{◌++◌, take, arith, length-append}
use Rattle.std.proofs.KnownBytes.{Consumes-trans}
use Rattle.ft_io.proofs.source.read_all.Goals as goal

pub returns-then-n-limit-clause-too_long : goal.returns-then-n-limit-clause-too_long
returns-then-n-limit-clause-too_long g c = λ _. (
  c.loop-n.bytes.items ++ take c.in-Ok.n c.read.new.buf,
  Consumes-trans _ _ _ _ _ c.loop-n.invariant.taken c.in-Ok.ensures.bytes.0,
  omega (arith, length-append c.loop-n.bytes.items (take c.in-Ok.n c.read.new.buf), c.in-Ok.ensures.bound.1, c.if-n-limit.true, c.len.ensures),
)

pub returns-then-is_err-clause-within : goal.returns-then-is_err-clause-within
returns-then-is_err-clause-within g c = λ _. (
  c.loop-n.bytes.items ++ take c.in-Ok.n c.read.new.buf,
  Consumes-trans _ _ _ _ _ c.loop-n.invariant.taken c.in-Ok.ensures.bytes.0,
  omega (arith, length-append c.loop-n.bytes.items (take c.in-Ok.n c.read.new.buf), c.in-Ok.ensures.bound.1, c.if-n-limit.false, c.len.ensures),
)
