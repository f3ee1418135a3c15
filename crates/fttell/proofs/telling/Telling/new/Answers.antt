use Rattle.std.proofs.Common.{[], refl, subst, sym}
use Rattle.ft_io.specs.Pieces.{IsUnderWay, OnTheWay}
use Rattle.ft_io.proofs.PieceLaws.{starts}
use Rattle.fttell.proofs.telling.Telling.new.Goals as goal

pub returns : goal.returns
returns g c = (
  record {
    names = c.in-Ok.ensures;
    told = c.new-3.ensures c.args.job.now;
    lines = subst (λ (way : OnTheWay). IsUnderWay g.K.Sink.holds g.K.Sink.faults [] (g.K.Sink.holds c.args.sink) (g.K.Sink.faults c.args.sink) c.args.sink way) (sym c.in-Ok-new.ensures) (starts c.args.sink);
  },
  refl,
)
