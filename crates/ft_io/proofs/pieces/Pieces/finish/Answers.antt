use Rattle.ft_io.proofs.PieceLaws.{ends-written}
use Rattle.ft_io.proofs.pieces.Pieces.finish.Goals as goal

pub returns-clause-ends : goal.returns-clause-ends
returns-clause-ends g c = rw (← c.self.view_is) (ends-written c.write_all.result c.args.sink.now c.write_all.new.sink _ c.if-self.false
    (rw c.as_slice.ensures at c.write_all.ensures.all) (rw c.as_slice.ensures at c.write_all.ensures.front) c.write_all.ensures.fault)
